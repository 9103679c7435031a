-- Numbers that rise along pieces.
use Rattle.std.proofs.Common.{◌≡◌, ℕ, ◌+◌, ◌*◌, ◌≤◌, ◌<◌, List, sym, ap, subst, inl, inr, ⊎_elim, refl, arith}
use Rattle.std.specs.Int.{abs_diff}
use Rattle.std.proofs.lemmas.Bool.{cases_eq}
use Rattle.grid_base.specs.declared.piece.Piece.{Piece}
use Rattle.grid_base.specs.declared.piece.Piece.TheVariants.{Edge, Via}
use Rattle.grid_base.specs.declared.size.Size.{Size}
use Rattle.grid_base.specs.Numbers.{IsVertex, IsPiece, start_of, end_of, to_next_col, to_next_row, to_next_layer}
use Rattle.grid_graph.specs.Weighed.{Weighs}
use Rattle.label_search.specs.Sets.{RisesSlowly}
use Rattle.brought_bounds.specs.TableWords.{RisesAlong}

pub rises_where : (s : Size) (pieces : List (Piece × ℕ)) (D : ℕ → ℕ) (p : Piece) (w : ℕ) → ((k : ℕ) → Weighs pieces p k → w ≡ k)
    → abs_diff (D (start_of p)) (D (end_of s p)) ≤ w → RisesAlong s pieces D p
rises_where s pieces D p w same near k a b weighs connects = ⊎_elim
    (λ goes. omega (arith, near, same k weighs, ap D goes.1, ap D goes.2))
    (λ goes. omega (arith, near, same k weighs, ap D goes.1, ap D goes.2))
    connects

pub rises_gives : (s : Size) (pieces : List (Piece × ℕ)) (D : ℕ → ℕ) (p : Piece) (w k : ℕ) → IsPiece s p → Weighs pieces p k
    → w ≡ k → RisesAlong s pieces D p → abs_diff (D (start_of p)) (D (end_of s p)) ≤ w
rises_gives s pieces D p w k is weighs same rises =
    omega (
      arith,
      same,
      rises k (start_of p) (end_of s p) weighs (inl (is, refl, refl)),
      rises k (end_of s p) (start_of p) weighs (inr (is, refl, refl)),
    )

-- three pieces go from a vertex
pub from_vertex : (R : Piece → Type 0) (v : ℕ) → R (to_next_col v) → R (to_next_row v) → R (to_next_layer v) → (p : Piece)
    → start_of p ≡ v → R p
from_vertex R v col row layer (Edge e) starts = ⊎_elim
    (λ even. subst (λ n. R (Edge (record { 0 = n }))) (omega (arith, even, starts)) col)
    (λ odd. subst (λ n. R (Edge (record { 0 = n }))) (omega (arith, odd, starts)) row)
    (cases_eq e.0 (2 * v))
from_vertex R v col row layer (Via w) starts = subst (λ n. R (Via (record { 0 = n }))) (sym starts) layer

-- it rises slowly where it rises along each piece
pub slowly : (s : Size) (pieces : List (Piece × ℕ)) (D : ℕ → ℕ)
    → ((v : ℕ) → IsVertex s v → (p : Piece) → start_of p ≡ v → RisesAlong s pieces D p) → RisesSlowly s pieces D
slowly s pieces D along p k a b weighs connects =
    let start : IsVertex s (start_of p) = ⊎_elim (λ goes. goes.0.0) (λ goes. goes.0.0) connects in
    along (start_of p) start p refl k a b weighs connects

-- one more
pub up_to : (P : ℕ → Type 0) (n : ℕ) → ((i : ℕ) → i < n → P i) → P n → (i : ℕ) → i < n + 1 → P i
up_to P n below at i low = ⊎_elim (λ same. subst P (sym same) at) (λ other. below i (omega (arith, low, other))) (cases_eq i n)
