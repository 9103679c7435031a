-- The rising list of the pieces of a list, and what is the same for both.
use Rattle.std.proofs.Common.{◌≡◌, ◌⊎◌, Bool, true, false, List, [], ◌∷◌, length, refl, sym, ◌∙◌, ap, inl, inr, ⊎_elim, arith, ◌↔◌, Contains}
use Rattle.std.specs.BTreeSet.{insert_key}
use Rattle.std.specs.List.{list_any, sum_by}
use Rattle.std.specs.List.Sorted.{IsStrictlySortedBy}
use Rattle.std.specs.Ordering.{ordering_reverse, is_eq, match_ordering}
use Rattle.std.specs.declared.cmp.Ordering.{Ordering}
use Rattle.std.specs.declared.cmp.Ordering.TheVariants.{Less, Equal, Greater}
use Rattle.std.proofs.lemmas.Bool.{cases_Bool}
use Rattle.std.proofs.lemmas.List.Elements.{All-contains, All-contains_itself, All-weaker, All-from_recursion, recursion_from_All}
use Rattle.std.proofs.lemmas.List.Folds.{list_any_none}
use Rattle.std.proofs.lemmas.List.Sums.{sum_by-cons}
use Rattle.std.proofs.lemmas.Map.Views.{All-insert_key}
use Rattle.grid_base.specs.contracts.piece.PieceOrd.TheImpl.Laws.{matches_eq-law}
use Rattle.grid_base.specs.declared.piece.Piece.{Piece}
use Rattle.grid_base.specs.Lists.{HasNoRepeats}
use Rattle.grid_base.proofs.Lists.{At-from_member, Contains-rest, head_or_rest, not_at}
use Rattle.grid_base.proofs.NoRepeats.{sum_by-within}
use Rattle.tree_set.specs.Order.{piece_cmp, IsRising}
use Rattle.tree_set.proofs.Order.{piece_cmp-derived, piece_cmp-total, same_piece, empty-IsRising, rising_once}

-- the pieces of a list in rising order, each once
pub risen : List Piece → List Piece
risen [] = []
risen (p ∷ ps) = insert_key piece_cmp (risen ps) p

put-IsRising : (p : Piece) (ks : List Piece) → IsRising ks → IsRising (insert_key piece_cmp ks p)
unfolding IsStrictlySortedBy
put-IsRising p [] rising = (tt, tt)
put-IsRising p (x ∷ xs) rising = by (piece_cmp p x) refl (put-IsRising p xs rising.1)
  where
    by : (r : Ordering) → piece_cmp p x ≡ r → IsRising (insert_key piece_cmp xs p) → IsRising (match_ordering r (p ∷ x ∷ xs) (x ∷ xs) (x ∷ insert_key piece_cmp xs p))
    by Less is rest =
        let later = All-from_recursion (λ y. piece_cmp x y ≡ Less) xs rising.0 in
        ((is, recursion_from_All (λ y. piece_cmp p y ≡ Less) xs (All-weaker (λ y. piece_cmp x y ≡ Less) (λ y. piece_cmp p y ≡ Less) (λ y less. piece_cmp-total.trans p x y is less) xs later)), rising)
    by Equal is rest = rising
    by Greater is rest =
        let later = All-from_recursion (λ y. piece_cmp x y ≡ Less) xs rising.0 in
        let turned : piece_cmp x p ≡ Less = piece_cmp-total.antisymm x p ∙ ap ordering_reverse is in
        (recursion_from_All (λ y. piece_cmp x y ≡ Less) (insert_key piece_cmp xs p) (All-insert_key piece_cmp p (λ y. piece_cmp x y ≡ Less) xs later turned), rest)

pub risen-IsRising : (ps : List Piece) → IsRising (risen ps)
unfolding risen
risen-IsRising [] = empty-IsRising
risen-IsRising (p ∷ ps) = put-IsRising p (risen ps) (risen-IsRising ps)

-- the first element of a list
first : {X : Type 0} (x : X) (xs : List X) (y : X) → y ≡ x → Contains (x ∷ xs) y
first x xs y is = (0, omega arith, sym is)

was_or_put : (p : Piece) (ks : List Piece) (q : Piece) → Contains (insert_key piece_cmp ks p) q → (q ≡ p) ⊎ Contains ks q
was_or_put p ks q held =
    All-contains (λ x. (x ≡ p) ⊎ Contains ks x) (insert_key piece_cmp ks p) q
    (All-insert_key piece_cmp p (λ x. (x ≡ p) ⊎ Contains ks x) ks (All-weaker (Contains ks) (λ x. (x ≡ p) ⊎ Contains ks x) (λ x at. inr at) ks (All-contains_itself ks)) (inl refl)) held

put_or_kept : (p : Piece) (ks : List Piece) (q : Piece) → (q ≡ p) ⊎ Contains ks q → Contains (insert_key piece_cmp ks p) q
put_or_kept p [] q why = ⊎_elim (λ is. first p [] q is) (λ none. absurd (omega (arith, none.1))) why
put_or_kept p (x ∷ xs) q why = by (piece_cmp p x) refl (put_or_kept p xs q)
  where
    by : (r : Ordering) → piece_cmp p x ≡ r → ((q ≡ p) ⊎ Contains xs q → Contains (insert_key piece_cmp xs p) q) → Contains (match_ordering r (p ∷ x ∷ xs) (x ∷ xs) (x ∷ insert_key piece_cmp xs p)) q
    by Less is rest = ⊎_elim (λ new. first p (x ∷ xs) q new) (λ was. Contains-rest p (x ∷ xs) q was) why
    by Equal is rest =
        let same : p ≡ x = same_piece p x (matches_eq-law p x ∙ ap is_eq (piece_cmp-derived p x ∙ is)) in
        ⊎_elim (λ new. first x xs q (new ∙ same)) (λ was. was) why
    by Greater is rest = ⊎_elim
        (λ new. Contains-rest x (insert_key piece_cmp xs p) q (rest (inl new)))
        (λ was. ⊎_elim (λ here. first x (insert_key piece_cmp xs p) q here) (λ later. Contains-rest x (insert_key piece_cmp xs p) q (rest (inr later))) (head_or_rest x xs q was))
        why

-- it has the same pieces
pub risen-holds : (ps : List Piece) (q : Piece) → Contains (risen ps) q ↔ Contains ps q
unfolding risen
risen-holds [] q = (λ held. held, λ held. held)
risen-holds (p ∷ ps) q = (
  λ held. ⊎_elim (λ is. first p ps q is) (λ was. Contains-rest p ps q ((risen-holds ps q).0 was)) (was_or_put p (risen ps) q held),
  λ held. put_or_kept p (risen ps) q (⊎_elim (λ is. inl is) (λ later. inr ((risen-holds ps q).1 later)) (head_or_rest p ps q held)),
)

-- whether some piece passes a test is the same for lists with the same pieces
none_passes : {X : Type 0} (test : X → Bool) (xs ys : List X) → ((x : X) → Contains ys x → Contains xs x) → list_any test xs ≡ false → list_any test ys ≡ false
none_passes test xs ys within none =
    list_any_none test ys (All-weaker (Contains ys) (λ x. test x ≡ false) (λ x held. let at = At-from_member xs x (within x held) in not_at test xs none at.0 x at.2) ys (All-contains_itself ys))

pub same_any : {X : Type 0} (test : X → Bool) (xs ys : List X) → ((x : X) → Contains xs x ↔ Contains ys x) → list_any test xs ≡ list_any test ys
same_any test xs ys same =
    ⊎_elim
    (λ (some : list_any test xs ≡ true). ⊎_elim
    (λ (also : list_any test ys ≡ true). some ∙ sym also)
    (λ (none : list_any test ys ≡ false). absurd (cc (some, none_passes test ys xs (λ x. (same x).0) none)))
    (cases_Bool (list_any test ys)))
    (λ (none : list_any test xs ≡ false). none ∙ sym (none_passes test xs ys (λ x. (same x).1) none))
    (cases_Bool (list_any test xs))

ones : {X : Type 0} (xs : List X) → sum_by (λ x. 1) xs ≡ length xs
ones [] = refl
ones (x ∷ xs) = omega (arith, sum_by-cons (λ y. 1) x xs, ones xs)

-- and so is their number, where none stands twice
pub same_length : {X : Type 0} (xs ys : List X) → HasNoRepeats xs → HasNoRepeats ys → ((x : X) → Contains xs x ↔ Contains ys x) → length xs ≡ length ys
same_length xs ys once once_too same =
    omega (arith, ones xs, ones ys, sum_by-within (λ x. 1) xs ys once (λ x. (same x).0), sum_by-within (λ x. 1) ys xs once_too (λ x. (same x).1))

pub risen-length : (ps : List Piece) → HasNoRepeats ps → length (risen ps) ≡ length ps
risen-length ps once = same_length (risen ps) ps (rising_once (risen ps) (risen-IsRising ps)) once (risen-holds ps)
