-- Which sets nets keep in several changes.
use Rattle.std.proofs.Common.{◌≡◌, ◌≢◌, ℕ, zero, suc, List, [], ◌∷◌, ◌++◌, slice_set, Contains, refl, sym, ap, subst, arith}
use Rattle.std.proofs.lemmas.List.Elements.{Contains-append_left, Contains-append_right}
use Rattle.grid_base.specs.declared.piece.Piece.{Piece}
use Rattle.grid_base.specs.Lists.{At}
use Rattle.negotiation.specs.Kept.{AreKeptBut}

-- another element than the one that is set
At-beside_set : {X : Type 0} (xs : List X) (k j : ℕ) (y z : X) → j ≢ k → At xs j z → At (slice_set xs k y) j z
At-beside_set [] k j y z other at = at
At-beside_set (x ∷ xs) zero zero y z other at = absurd (other refl)
At-beside_set (x ∷ xs) zero (suc j) y z other at = at
At-beside_set (x ∷ xs) (suc k) zero y z other at = at
At-beside_set (x ∷ xs) (suc k) (suc j) y z other at = At-beside_set xs k j y z (λ same. other (ap suc same)) at

pub kept_same : (a : List ℕ) (xs ys : List (List Piece)) → xs ≡ ys → AreKeptBut a xs ys
kept_same a xs ys same = λ k tree at not_in. subst (λ (zs : List (List Piece)). At zs k tree) same at

-- one change after another
pub kept_both : (a b : List ℕ) (xs ys zs : List (List Piece)) → AreKeptBut a xs ys → AreKeptBut b ys zs → AreKeptBut (a ++ b) xs zs
kept_both a b xs ys zs first second =
    λ k tree at not_in. second k tree (first k tree at (λ in_a. not_in (Contains-append_left a b k in_a))) (λ in_b. not_in (Contains-append_right a b k in_b))

-- more nets may have other sets
pub kept_within : (a b : List ℕ) (xs ys : List (List Piece)) → ((k : ℕ) → Contains a k → Contains b k) → AreKeptBut a xs ys → AreKeptBut b xs ys
kept_within a b xs ys within kept = λ k tree at not_in. kept k tree at (λ in_a. not_in (within k in_a))

-- one net gets a set
pub kept_beside : (k : ℕ) (xs ys : List (List Piece)) (tree : List Piece) → ys ≡ slice_set xs k tree → AreKeptBut (k ∷ []) xs ys
kept_beside k xs ys tree is = λ j other at not_in.
    subst (λ (zs : List (List Piece)). At zs j other) (sym is) (At-beside_set xs k j tree other (λ same. not_in (subst (λ (i : ℕ). Contains (k ∷ []) i) (sym same) (first k))) at)
  where
    first : (k : ℕ) → Contains (k ∷ []) k
    first k = (0, omega arith, refl)
