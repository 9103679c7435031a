-- The best sets, as sets are saved and put back.
use Rattle.std.proofs.Common.{◌≡◌, ℕ, zero, suc, ◌<◌, List, [], ◌∷◌, length, get_or, refl, sym, ◌∙◌, ap, arith, Option, Some, None}
use Rattle.std.specs.Prelude.{slice_set, unwrap_or}
use Rattle.grid_base.specs.declared.piece.Piece.{Piece}
use Rattle.routing_state.specs.Best.{best_sets}

-- a set is changed, and the one that the net had is saved where none is yet: the best stays
pub best_sets-saved : (saved : List (Option (List Piece))) (now : List (List Piece)) (k : ℕ) (o : Option (List Piece)) (old new : List Piece) → k < length saved → k < length now
    → get_or now k old ≡ old → best_sets (slice_set saved k (Some (unwrap_or (get_or saved k o) old))) (slice_set now k new) ≡ best_sets saved now
best_sets-saved [] now k o old new in_saved in_now is = absurd (omega (arith, in_saved))
best_sets-saved (s ∷ saved) [] k o old new in_saved in_now is = absurd (omega (arith, in_now))
best_sets-saved (s ∷ saved) (t ∷ now) zero o old new in_saved in_now is = ap (λ (u : List Piece). unwrap_or s u ∷ best_sets saved now) (sym is)
best_sets-saved (s ∷ saved) (t ∷ now) (suc k) o old new in_saved in_now is =
    ap (λ (us : List (List Piece)). unwrap_or s t ∷ us) (best_sets-saved saved now k o old new (omega (arith, in_saved)) (omega (arith, in_now)) is)

-- a saved set is put back: the best stays
pub best_sets-put_back : (saved : List (Option (List Piece))) (now : List (List Piece)) (k : ℕ) (o : Option (List Piece)) (tree : List Piece) → k < length saved
    → get_or saved k o ≡ Some tree → best_sets (slice_set saved k None) (slice_set now k tree) ≡ best_sets saved now
best_sets-put_back [] now k o tree in_saved some = absurd (omega (arith, in_saved))
best_sets-put_back (s ∷ saved) [] k o tree in_saved some = none_left k
  where
    none_left : (j : ℕ) → best_sets (slice_set (s ∷ saved) j None) [] ≡ []
    none_left zero = refl
    none_left (suc j) = refl
best_sets-put_back (s ∷ saved) (t ∷ now) zero o tree in_saved some = ap (λ (v : Option (List Piece)). unwrap_or v t ∷ best_sets saved now) (sym some)
best_sets-put_back (s ∷ saved) (t ∷ now) (suc k) o tree in_saved some =
    ap (λ (us : List (List Piece)). unwrap_or s t ∷ us) (best_sets-put_back saved now k o tree (omega (arith, in_saved)) some)

-- where nothing is saved, the best sets are those that the nets have
pub best_sets-none : (saved : List (Option (List Piece))) (now : List (List Piece)) → length saved ≡ length now
    → ((k : ℕ) (o : Option (List Piece)) → k < length saved → get_or saved k o ≡ None) → best_sets saved now ≡ now
best_sets-none [] [] long none = refl
best_sets-none [] (t ∷ now) long none = absurd (omega (arith, long))
best_sets-none (s ∷ saved) [] long none = absurd (omega (arith, long))
best_sets-none (s ∷ saved) (t ∷ now) long none =
    ap (λ (v : Option (List Piece)). unwrap_or v t ∷ best_sets saved now) (none 0 None (omega arith))
    ∙ ap (λ (us : List (List Piece)). t ∷ us) (best_sets-none saved now (omega (arith, long)) (λ k o below. none (suc k) o (omega (arith, below))))
