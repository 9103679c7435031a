-- What rerouting comes to.
use Rattle.std.specs.Prelude.{ℕ, ◌≡◌, ◌<◌, ◌≤◌, ◌⊎◌, List, [], length}
use Rattle.grid_base.specs.declared.piece.Piece.{Piece}
use Rattle.grid_base.specs.Lists.{At}
use Rattle.grid_base.specs.Walks.{JoinsList}
use Rattle.grid_graph.specs.declared.design.Design.{Design}
use Rattle.grid_graph.specs.declared.ground.Ground.TheVariants.{WithChoked}
use Rattle.grid_graph.specs.declared.net_spec.NetSpec.{NetSpec}
use Rattle.grid_graph.specs.Grids.{size_of}
use Rattle.tree_set.specs.Loads.{load}
use Rattle.tree_set.specs.Measures as measures
use Rattle.tree_set.specs.Routings.{KeepsTo}
use Rattle.routing_state.specs.Totals.{IsNoWorse, totals_of}
use Rattle.negotiation.specs.Changes.{IsKeptOrRoute}
use Rattle.negotiation.specs.Kept.{AreKeptBut}
use Rattle.negotiation.specs.Limits.{patience}
use Rattle.negotiation.specs.declared.rerouted.Rerouted.{Rerouted}
use Rattle.negotiation.specs.declared.settings.RerouteSettings.{RerouteSettings}

-- the set of the net at this place joins its terminals without a wall, and it is the one that the net was given, or a route
-- of the net on its ground; where the net had none it is a route
pub record IsNetRerouted (d : Design) (given : List (List Piece)) (missing : List ℕ) (k : ℕ) (n : NetSpec) (tree : List Piece) : Type 0 where
  pub joined : JoinsList (size_of d.grid) tree n.terminals
  pub no_wall : KeepsTo d.grid WithChoked tree
  pub from : IsKeptOrRoute d missing given k n tree

-- one such set per net, with their overflow and their wirelength; where each net was given a set, they are no worse than the
-- given ones; there were no more rounds than were asked for, and fewer only where at least 30 ran or no overflow is left; and
-- where there were none, and no passes were asked for, each net that was given a set has that very set
pub record IsRerouted (d : Design) (given : List (List Piece)) (missing : List ℕ) (s : RerouteSettings) (r : Rerouted) : Type 0 where
  pub long : length r.trees ≡ length d.nets
  pub each : (k : ℕ) (n : NetSpec) (tree : List Piece) → At d.nets k n → At r.trees k tree → IsNetRerouted d given missing k n tree
  pub overflow : r.overflow ≡ measures.overflow d.grid (load d.grid d.nets r.trees)
  pub wirelength : r.wirelength ≡ measures.wirelength r.trees
  pub no_worse : missing ≡ [] → IsNoWorse (record { overflow = r.overflow; wirelength = r.wirelength }) (totals_of d given)
  pub rounds : r.rounds ≤ s.rounds
  pub enough : r.rounds < s.rounds → (patience ≤ r.rounds) ⊎ (r.overflow ≡ 0)
  pub idle : r.rounds ≡ 0 → s.passes ≡ 0 → AreKeptBut missing given r.trees
