-- What is there, where something was made of it.
use Rattle.std.proofs.Common.{◌≡◌, Option, None, Some, refl, sym}
use Rattle.std.specs.Prelude.{option_and_then, option_map}
use Rattle.std.specs.Option.{option_zip}
use Rattle.std.proofs.lemmas.Option.{same_Some}

module _ {X Y : Type 0} where
  pub mapped_of : (f : X → Y) (o : Option X) (y : Y) → option_map f o ≡ Some y → (x : X) × (o ≡ Some x) × (f x ≡ y)
  mapped_of f None y is = absurd (cc is)
  mapped_of f (Some x) y is = (x, refl, same_Some (f x) y is)

  pub then_of : (f : X → Option Y) (o : Option X) (y : Y) → option_and_then f o ≡ Some y → (x : X) × (o ≡ Some x) × (f x ≡ Some y)
  then_of f None y is = absurd (cc is)
  then_of f (Some x) y is = (x, refl, is)

  pub zipped_of : (a : Option X) (b : Option Y) (z : X × Y) → option_zip a b ≡ Some z → (a ≡ Some z.0) × (b ≡ Some z.1)
  zipped_of None b z is = absurd (cc is)
  zipped_of (Some x) None z is = absurd (cc is)
  zipped_of (Some x) (Some y) z is = let same : (x, y) ≡ z = same_Some (x, y) z is in rw (sym same) (refl, refl)
