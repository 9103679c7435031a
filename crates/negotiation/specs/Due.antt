-- Which nets are to be rerouted.
use Rattle.std.specs.Prelude.{ℕ, ◌<◌, ◌⊎◌, List, length}
use Rattle.grid_base.specs.declared.piece.Piece.{Piece}
use Rattle.grid_base.specs.Lists.{At}
use Rattle.grid_graph.specs.declared.design.Design.{Design}
use Rattle.grid_graph.specs.declared.grid.Grid.{Grid}
use Rattle.tree_set.specs.Loads.{load}
use Rattle.routing_state.specs.declared.state.RoutingState.{RoutingState}
use Rattle.routing_state.specs.Overfull.{HoldsOverfull}
use Rattle.routing_state.specs.States.{trees_of}
use Rattle.net_extents.specs.declared.extent.Extent.{Extent}
use Rattle.negotiation.specs.declared.due.Due.{Due}
use Rattle.negotiation.specs.declared.due.Due.TheVariants.{Overfull, Improvable}

-- the set holds an overfull edge; or, where it is to be improved, it has more pieces than the net needs at least
abbrev pub IsDue : Grid → (ℕ → ℕ) → ℕ → Due → List Piece → Type 0
IsDue g load least Overfull tree = HoldsOverfull g load tree
IsDue g load least Improvable tree = (least < length tree) ⊎ HoldsOverfull g load tree

-- the set of the net at this place holds an overfull edge
pub record IsOverfullNet (d : Design) (state : RoutingState) (k : ℕ) : Type 0 where
  pub tree : List Piece
  pub has : At (trees_of state) k tree
  pub holds : HoldsOverfull d.grid (load d.grid d.nets (trees_of state)) tree

-- the set of the net at this place is due, where the net needs at least so many pieces as its extent says
pub record IsDueNet (d : Design) (state : RoutingState) (extents : List Extent) (due : Due) (k : ℕ) : Type 0 where
  pub tree : List Piece
  pub extent : Extent
  pub has : At (trees_of state) k tree
  pub reaches : At extents k extent
  pub is_due : IsDue d.grid (load d.grid d.nets (trees_of state)) extent.least due tree
