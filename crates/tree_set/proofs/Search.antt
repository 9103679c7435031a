-- A binary search in a rising list finds exactly what is in it.
use Rattle.std.proofs.Common.{◌≡◌, ℕ, ◌+◌, ◌<◌, ◌≤◌, List, length, get_or, Contains, true, false, refl, sym, ◌∙◌, ap, Ok, Err, arith, ⊎_elim}
use Rattle.std.specs.Prelude.{Result, is_ok, ◌↔◌}
use Rattle.std.specs.Ordering.{is_eq, is_lt, ordering_reverse}
use Rattle.std.specs.List.Sorted.{IsSorted, IsSearchInRange, IsBinarySearchResult}
use Rattle.std.specs.declared.cmp.Ordering.TheVariants.{Less, Equal}
use Rattle.std.proofs.lemmas.Bool.{cases_lt}
use Rattle.std.proofs.lemmas.List.Sorted.{searchable_from_sorted}
use Rattle.std.proofs.lemmas.Map.Keys.{Less-from_sorted}
use Rattle.grid_base.specs.declared.piece.Piece.{Piece}
use Rattle.grid_base.specs.contracts.piece.PieceOrd.TheImpl as ord
use Rattle.grid_base.specs.contracts.piece.PieceOrd.TheImpl.Laws.{total-law, matches_eq-law}
use Rattle.tree_set.specs.Order.{piece_cmp, IsRising}
use Rattle.tree_set.proofs.Order.{piece_cmp-derived, piece_cmp-total, same_piece, equal-equivalence}

-- pieces that compare as equal are the same
same_from_cmp : (p q : Piece) → ord.ghosts.cmp p q ≡ Equal → p ≡ q
same_from_cmp p q tied = same_piece p q (matches_eq-law p q ∙ ap is_eq tied)

-- a piece compares as equal to itself
tied_to_itself : (p : Piece) → is_eq (ord.ghosts.cmp p p) ≡ true
tied_to_itself p = sym (matches_eq-law p p) ∙ equal-equivalence.refl p

-- a rising list is sorted by the derived order
pub IsSorted-rising : (ps : List Piece) → IsRising ps → IsSorted ord.ghosts.cmp ps
IsSorted-rising ps up k d low high =
    let p = get_or ps k d in
    let q = get_or ps (k + 1) d in
    let below : piece_cmp p q ≡ Less = Less-from_sorted piece_cmp ps k (k + 1) d up (omega arith) high in
    ap is_lt (piece_cmp-derived q p ∙ piece_cmp-total.antisymm q p ∙ ap ordering_reverse below)

pub found_by_search : (ps : List Piece) (p : Piece) (r : Result ℕ ℕ) → IsRising ps → IsSearchInRange r (length ps) → IsBinarySearchResult (λ q. ord.ghosts.cmp q p) ps r → (is_ok r ≡ true) ↔ Contains ps p
found_by_search ps p (Ok i) up within at =
    (λ _. (i, within, same_from_cmp _ p (at p)), λ _. refl)
found_by_search ps p (Err i) up within at =
    let parted = at (searchable_from_sorted total-law (λ (q : Piece). q) ps p (IsSorted-rising ps up)) in
    let tied = tied_to_itself p in (
      λ (no : false ≡ true). cc,
      λ held. let k = held.0 in
          ⊎_elim
          (λ (before : k < i). let below = ap (λ q. is_eq (ord.ghosts.cmp q p)) (sym held.2) ∙ ap is_eq (parted.0 k p (omega arith) before) in cc)
          (λ (behind : i ≤ k). let above = ap (λ q. is_eq (ord.ghosts.cmp q p)) (sym held.2) ∙ ap is_eq (parted.1 k p behind held.1) in cc)
          (cases_lt k i),
    )
