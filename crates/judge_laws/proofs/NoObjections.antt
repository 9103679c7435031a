-- Where none of the objections in a list applies.
use Rattle.std.proofs.Common.{◌≡◌, ℕ, suc, ◌+◌, ◌<◌, List, [], ◌∷◌, length, get_or, None, refl, sym, ◌∙◌, ap, subst, inr, arith}
use Rattle.std.specs.Prelude.{flat_map, map}
use Rattle.std.specs.List.{enumerate_from}
use Rattle.std.proofs.lemmas.List.FromFn.{length-enumerate_from, get_or-enumerate_from}
use Rattle.std.proofs.lemmas.Option.{slice_get_within, slice_get_read, get_or_from_slice_get}
use Rattle.grid_base.specs.Lists.{At}
use Rattle.grid_graph.specs.declared.design.Design.{Design}
use Rattle.route_judge.specs.Objections.{Objection, Applies, Finds}
use Rattle.route_judge.proofs.Found.{found_behind}

-- none applies where none does against any element
pub none_against : {X : Type 0} (d : Design) (f : X → List Objection) (xs : List X) → ((i : ℕ) (x : X) → At xs i x → Finds d (f x) None)
    → Finds d (flat_map f xs) None
none_against d f [] none = refl
none_against d f (x ∷ xs) none =
    found_behind d (f x) (flat_map f xs) None (none 0 x refl) (none_against d f xs (λ i y at. none (suc i) y at))

-- an element with its number
numbered_at : {X : Type 0} (xs : List X) (i : ℕ) (x : ℕ × X) → At (enumerate_from 0 xs) i x → (x.0 ≡ i) × At xs i x.1
numbered_at xs i x at =
    let within : i < length xs = omega (arith, slice_get_within (enumerate_from 0 xs) i x at, length-enumerate_from 0 xs) in
    let is : x ≡ (0 + i, get_or xs i x.1) = sym (get_or_from_slice_get (enumerate_from 0 xs) i x x at) ∙ get_or-enumerate_from 0 xs i x within in
    let number : 0 + i ≡ i = omega arith in (
      ap (λ (y : _). y.0) is ∙ number,
      slice_get_read xs (length xs) i x.1 refl within (ap (λ (y : _). y.1) is),
    )

-- nor where none does against any element with its number
pub none_against_numbered : {X : Type 0} (d : Design) (f : ℕ × X → List Objection) (xs : List X) → ((i : ℕ) (x : X) → At xs i x → Finds d (f (i, x)) None)
    → Finds d (flat_map f (enumerate_from 0 xs)) None
none_against_numbered d f xs none =
    none_against d f (enumerate_from 0 xs) (λ i x at.
    let stands = numbered_at xs i x at in
    subst (λ (k : ℕ). Finds d (f (k, x.1)) None) (sym stands.0) (none i x.1 stands.1))

-- nor where each makes one objection that doesn't apply
pub none_of_map : {X : Type 0} (d : Design) (f : X → Objection) (xs : List X) → ((i : ℕ) (x : X) → At xs i x → ¬ Applies d (f x)) → Finds d (map f xs) None
none_of_map d f [] none = refl
none_of_map d f (x ∷ xs) none = inr (none 0 x refl, none_of_map d f xs (λ i y at. none (suc i) y at))
