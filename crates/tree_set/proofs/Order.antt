-- The order of pieces is total, and it is the one that `Piece` derives.
use Rattle.std.proofs.Common.{◌≡◌, ℕ, ◌<◌, refl, ap, sym, ◌∙◌, ◌+◌, subst, ⊎_elim, arith, true, List, [], get_or, eqb-true}
use Rattle.std.specs.Cmp.{IsTotalOrder, IsEquivalence}
use Rattle.std.specs.List.Sorted.{IsSorted, IsStrictlySortedBy}
use Rattle.std.specs.List.{dedup}
use Rattle.std.proofs.lemmas.Bool.{cases_lt}
use Rattle.std.proofs.lemmas.List.Kept.{IsStrictlySortedBy-dedup}
use Rattle.std.proofs.lemmas.Map.Keys.{Less-from_sorted}
use Rattle.std.proofs.lemmas.Option.{slice_get_within, get_or_from_slice_get}
use Rattle.std.specs.Ordering.{ordering_reverse, eq_by_cmp, is_eq, is_lt}
use Rattle.std.specs.declared.cmp.Ordering.TheVariants.{Less, Greater}
use Rattle.grid_base.specs.declared.piece.Piece.{Piece}
use Rattle.grid_base.specs.declared.piece.Piece.TheVariants.{Edge, Via}
use Rattle.grid_base.specs.contracts.piece.PieceOrd.TheImpl as ord
use Rattle.grid_base.specs.contracts.piece.PieceOrd.TheImpl.Laws.{total-law, matches_eq-law}
use Rattle.grid_base.specs.contracts.piece.PiecePartialEq.TheImpl as equal
use Rattle.grid_base.specs.contracts.piece.PieceEq.TheImpl.Laws.{laws-law}
use Rattle.grid_base.specs.Lists.{At, HasNoRepeats}
use Rattle.tree_set.specs.Order.{piece_cmp, IsRising}

pub piece_cmp-derived : (p q : Piece) → ord.ghosts.cmp p q ≡ piece_cmp p q
piece_cmp-derived (Edge a) (Edge b) = refl
piece_cmp-derived (Edge a) (Via b) = refl
piece_cmp-derived (Via a) (Edge b) = refl
piece_cmp-derived (Via a) (Via b) = refl

-- so its laws are those of the derived one
pub piece_cmp-total : IsTotalOrder piece_cmp
piece_cmp-total = record {
  antisymm = λ p q. sym (piece_cmp-derived p q) ∙ total-law.antisymm p q ∙ ap ordering_reverse (piece_cmp-derived q p);
  trans = λ p q r h k. sym (piece_cmp-derived p r) ∙ total-law.trans p q r (piece_cmp-derived p q ∙ h) (piece_cmp-derived q r ∙ k);
  congr = λ p q r h. sym (piece_cmp-derived p r) ∙ total-law.congr p q r (piece_cmp-derived p q ∙ h) ∙ piece_cmp-derived q r;
}

-- the derived test for equality is that order's
piece_eq-ties : (p q : Piece) → equal.ghosts.eq p q ≡ eq_by_cmp piece_cmp p q
piece_eq-ties p q = matches_eq-law p q ∙ ap is_eq (piece_cmp-derived p q)

-- what a sort by the derived order leaves is sorted by the written one
pub IsSorted-written : (ps : List Piece) → IsSorted ord.ghosts.cmp ps → IsSorted piece_cmp ps
IsSorted-written ps up k d low high =
    ap is_lt (sym (piece_cmp-derived (get_or ps (k + 1) d) (get_or ps k d))) ∙ up k d low high

-- pieces that are equal for the derived test are the same
pub same_piece : (p q : Piece) → equal.ghosts.eq p q ≡ true → p ≡ q
same_piece (Edge a) (Edge b) h = ap (λ n. Edge (record { 0 = n })) (eqb-true a.0 b.0 h)
same_piece (Edge a) (Via b) h = cc
same_piece (Via a) (Edge b) h = cc
same_piece (Via a) (Via b) h = ap (λ n. Via (record { 0 = n })) (eqb-true a.0 b.0 h)

pub equal-equivalence : IsEquivalence equal.ghosts.eq
equal-equivalence = laws-law

-- the list without a piece rises
pub empty-IsRising : IsRising []
unfolding IsStrictlySortedBy
empty-IsRising = tt

-- a list in the derived order, without repeats by the derived test, rises
pub IsRising-dedup : (ps : List Piece) → IsSorted ord.ghosts.cmp ps → IsRising (dedup equal.ghosts.eq ps)
IsRising-dedup ps up = IsStrictlySortedBy-dedup piece_cmp-total piece_eq-ties ps (IsSorted-written ps up)

-- no piece comes before itself
before_itself : (p : Piece) → ¬ (piece_cmp p p ≡ Less)
before_itself p less =
    let turned : Less ≡ Greater = sym less ∙ piece_cmp-total.antisymm p p ∙ ap ordering_reverse less in
    absurd (cc turned)

twice_in_rising : (tree : List Piece) (i j : ℕ) (p : Piece) → IsRising tree → i < j → At tree i p → At tree j p → ⊥
twice_in_rising tree i j p rising before first second =
    let less = Less-from_sorted piece_cmp tree i j p rising before (slice_get_within tree j p second) in
    before_itself p (subst (λ q. piece_cmp q p ≡ Less) (get_or_from_slice_get tree i p p first) (subst (λ q. piece_cmp (get_or tree i p) q ≡ Less) (get_or_from_slice_get tree j p p second) less))

-- no piece stands in a rising list twice
pub rising_once : (tree : List Piece) → IsRising tree → HasNoRepeats tree
rising_once tree rising i j p first second = ⊎_elim
    (λ before. absurd (twice_in_rising tree i j p rising before first second))
    (λ le. ⊎_elim
    (λ behind. absurd (twice_in_rising tree j i p rising behind second first))
    (λ ge. omega arith)
    (cases_lt j i))
    (cases_lt i j)
