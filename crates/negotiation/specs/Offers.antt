-- What becomes of sets where nets are given or offered what was found for them.
use Rattle.std.specs.Prelude.{ℕ, ◌≡◌, List, [], ◌∷◌, Option, None, Some, slice_set}
use Rattle.grid_base.specs.declared.piece.Piece.{Piece}
use Rattle.grid_graph.specs.declared.design.Design.{Design}
use Rattle.routing_state.specs.declared.state.RoutingState.{RoutingState}
use Rattle.routing_state.specs.States.{totals_in, trees_of}
use Rattle.routing_state.specs.Totals.{IsNoWorse, totals_of}

-- the net at this place gets what was found for it; where nothing was, it keeps its set; all others keep theirs
abbrev pub with_found : List (List Piece) → ℕ → Option (List Piece) → List (List Piece)
with_found sets k None = sets
with_found sets k (Some tree) = slice_set sets k tree

-- these nets get what was found for them, one after another
abbrev pub with_all_found : List (List Piece) → List ℕ → List (Option (List Piece)) → List (List Piece)
with_all_found sets [] found = sets
with_all_found sets (k ∷ nets) [] = sets
with_all_found sets (k ∷ nets) (f ∷ found) = with_all_found (with_found sets k f) nets found

-- the net at this place gets what was found for it where the totals are no worse with it; else all sets stay
pub record IsOffered (d : Design) (k : ℕ) (found : Option (List Piece)) (old new : RoutingState) : Type 0 where
  pub taken : IsNoWorse (totals_of d (with_found (trees_of old) k found)) (totals_in old) → trees_of new ≡ with_found (trees_of old) k found
  pub refused : ¬ IsNoWorse (totals_of d (with_found (trees_of old) k found)) (totals_in old) → trees_of new ≡ trees_of old
