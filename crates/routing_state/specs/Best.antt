-- The best sets so far.
use Rattle.std.specs.Prelude.{ℕ, ◌≡◌, List, length, map, Option, Some, unwrap_or}
use Rattle.std.specs.List.{zip}
use Rattle.grid_base.specs.declared.piece.Piece.{Piece}
use Rattle.grid_base.specs.Lists.{At}
use Rattle.grid_graph.specs.declared.design.Design.{Design}
use Rattle.grid_graph.specs.declared.ground.Ground.TheVariants.{WithChoked}
use Rattle.tree_set.specs.Routings.{KeepsTo}
use Rattle.routing_state.specs.declared.rerouting.Rerouting.{Rerouting}
use Rattle.routing_state.specs.States.{IsStateOf, trees_of}
use Rattle.routing_state.specs.Totals.{totals_of}

-- of each net the set that is saved for it, and where none is the one that it has
abbrev pub best_sets : List (Option (List Piece)) → List (List Piece) → List (List Piece)
best_sets saved now = map (λ x. unwrap_or x.0 x.1) (zip saved now)

-- the best sets: those that the nets get when they go back
abbrev pub best_of : Rerouting → List (List Piece)
best_of r = best_sets r.saved.items (trees_of r.state)

-- a rerouting of the design: the totals at the best are those of the best sets
pub record IsReroutingOf (d : Design) (r : Rerouting) : Type 0 where
  pub state : IsStateOf d r.state
  pub long : length r.saved.items ≡ length d.nets
  pub no_walls : (net : ℕ) (tree : List Piece) → At r.saved.items net (Some tree) → KeepsTo d.grid WithChoked tree
  pub best : r.best ≡ totals_of d (best_of r)
