-- Values that may be missing.
use Rattle.std.proofs.Common.{◌≡◌, ℕ, ◌⊎◌, Option, None, Some, IsSome, refl, inl, inr}
use Rattle.std.specs.Option.{unwrap_or, option_or}

pub some_is : (o : Option ℕ) (m : ℕ) → o ≡ Some m → IsSome o
some_is o m is = rw is refl

pub none_or_some : (o : Option ℕ) → (o ≡ None) ⊎ ((m : ℕ) × (o ≡ Some m))
none_or_some None = inl refl
none_or_some (Some m) = inr (m, refl)

pub some_value : (o : Option ℕ) → IsSome o → (m : ℕ) × (o ≡ Some m)
some_value None is = cc
some_value (Some m) is = (m, refl)

-- the first of three that is there: it is the same which two are asked together
pub unwrap_or-option_or : (x y : Option ℕ) (d : ℕ) → unwrap_or (option_or x y) d ≡ unwrap_or x (unwrap_or y d)
unwrap_or-option_or None y d = refl
unwrap_or-option_or (Some x) y d = refl
