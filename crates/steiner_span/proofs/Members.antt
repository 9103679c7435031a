-- Members of a list with one element in front.
use Rattle.std.proofs.Common.{◌≡◌, List, ◌∷◌, sym, ⊎_elim, arith}
use Rattle.std.specs.List.{Contains}
use Rattle.grid_base.proofs.Lists.{head_or_rest, Contains-rest}

pub Contains-first : {X : Type 0} (x : X) (xs : List X) (y : X) → y ≡ x → Contains (x ∷ xs) y
Contains-first x xs y same = (0, omega arith, sym same)

-- a list has what another has, also with the same element in front of both
pub Contains-one_more : {X : Type 0} (x : X) (xs ys : List X) → ((y : X) → Contains xs y → Contains ys y) → (y : X) → Contains (x ∷ xs) y → Contains (x ∷ ys) y
Contains-one_more x xs ys kept y at = ⊎_elim (λ here. Contains-first x ys y here) (λ later. Contains-rest x ys y (kept y later)) (head_or_rest x xs y at)
