-- Which sets nets have after a change of some.
use Rattle.std.specs.Prelude.{ℕ, ◌≡◌, ◌⊎◌, List, length, Contains}
use Rattle.grid_base.specs.declared.piece.Piece.{Piece}
use Rattle.grid_base.specs.Lists.{At}
use Rattle.grid_graph.specs.declared.design.Design.{Design}
use Rattle.grid_graph.specs.declared.net_spec.NetSpec.{NetSpec}
use Rattle.tree_set.specs.Routings.{IsRoute}

-- the set is the one that the net at this place had, unless that net is to get a new one in any case, or a route of the net
abbrev pub IsKeptOrRoute : Design → List ℕ → List (List Piece) → ℕ → NetSpec → List Piece → Type 0
IsKeptOrRoute d renewed old k n tree = (At old k tree × ¬ Contains renewed k) ⊎ IsRoute d.grid n tree

-- each net keeps its set or gets a route; those at the renewed places get one
pub record AreChanged (d : Design) (renewed : List ℕ) (old new : List (List Piece)) : Type 0 where
  pub long : length new ≡ length old
  pub each : (k : ℕ) (n : NetSpec) (tree : List Piece) → At d.nets k n → At new k tree → IsKeptOrRoute d renewed old k n tree
