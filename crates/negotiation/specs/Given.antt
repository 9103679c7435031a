-- The sets that rerouting begins with.
use Rattle.std.specs.Prelude.{ℕ, ◌≡◌, ◌<◌, List, length, All, Contains}
use Rattle.grid_base.specs.declared.piece.Piece.{Piece}
use Rattle.grid_base.specs.Lists.{At}
use Rattle.grid_base.specs.Walks.{JoinsList}
use Rattle.grid_graph.specs.declared.design.Design.{Design}
use Rattle.grid_graph.specs.declared.ground.Ground.TheVariants.{WithChoked}
use Rattle.grid_graph.specs.declared.net_spec.NetSpec.{NetSpec}
use Rattle.grid_graph.specs.Grids.{size_of}
use Rattle.tree_set.specs.Routings.{KeepsTo}

-- one set per net, none of them with a wall; each joins its net's terminals, but for the nets at the missing places
pub record AreGiven (d : Design) (given : List (List Piece)) (missing : List ℕ) : Type 0 where
  pub long : length given ≡ length d.nets
  pub no_wall : All (KeepsTo d.grid WithChoked) given
  pub joined : (k : ℕ) (n : NetSpec) (tree : List Piece) → At d.nets k n → At given k tree → ¬ Contains missing k → JoinsList (size_of d.grid) tree n.terminals
  pub places : All (λ k. k < length d.nets) missing
