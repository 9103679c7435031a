-- Nets that get what was found for them, one after another.
use Rattle.std.proofs.Common.{◌≡◌, ℕ, zero, suc, ◌+◌, ◌<◌, ◌≤◌, List, [], ◌∷◌, length, drop, get_or, slice_set, Option, refl, sym, ◌∙◌, ap, arith}
use Rattle.grid_base.specs.declared.piece.Piece.{Piece}
use Rattle.negotiation.specs.Offers.{with_all_found, with_found}

-- what was found at a place is given to the net there, and is then no longer in the list
step : (sets : List (List Piece)) (nets : List ℕ) (found : List (Option (List Piece))) (i : ℕ) (f x : Option (List Piece)) → f ≡ get_or found i f → i < length nets → length found ≡ length nets
    → with_all_found sets (drop i nets) (drop i found) ≡ with_all_found (with_found sets (get_or nets i 0) f) (drop (suc i) nets) (drop (suc i) (slice_set found i x))
step sets [] found i f x is short long = absurd (omega (arith, short))
step sets (n ∷ nets) [] i f x is short long = absurd (omega (arith, long))
step sets (n ∷ nets) (g ∷ found) zero f x is short long = ap (λ (h : Option (List Piece)). with_all_found (with_found sets n h) nets found) (sym is)
step sets (n ∷ nets) (g ∷ found) (suc i) f x is short long = step sets nets found i f x is (omega (arith, short)) (omega (arith, long))

pub all_found_more : (sets : List (List Piece)) (nets : List ℕ) (found : List (Option (List Piece))) (i : ℕ) (f x : Option (List Piece)) → f ≡ get_or found i f → i < length nets → length found ≡ length nets
    → with_all_found sets (drop i nets) (drop i found) ≡ with_all_found (with_found sets (get_or nets i 0) f) (drop (i + 1) nets) (drop (i + 1) (slice_set found i x))
all_found_more sets nets found i f x is short long =
    let on : suc i ≡ i + 1 = omega arith in
    step sets nets found i f x is short long ∙ ap (λ (k : ℕ). with_all_found (with_found sets (get_or nets i 0) f) (drop k nets) (drop k (slice_set found i x))) on

-- behind the last net all is given
pub all_found_end : (sets : List (List Piece)) (nets : List ℕ) (found : List (Option (List Piece))) (i : ℕ) → length nets ≤ i → with_all_found sets (drop i nets) found ≡ sets
all_found_end sets [] found zero over = refl
all_found_end sets [] found (suc i) over = refl
all_found_end sets (n ∷ nets) found zero over = absurd (omega (arith, over))
all_found_end sets (n ∷ nets) found (suc i) over = all_found_end sets nets found i (omega (arith, over))
