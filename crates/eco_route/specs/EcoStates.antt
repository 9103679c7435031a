-- What is true of an eco at all times.
use Rattle.std.specs.Prelude.{ℕ, ◌≡◌, List, All, length, slice_index}
use Rattle.grid_base.specs.declared.piece.Piece.{Piece}
use Rattle.grid_graph.specs.declared.grid.Grid.{Grid}
use Rattle.grid_graph.specs.declared.net_spec.NetSpec.{NetSpec}
use Rattle.grid_graph.specs.Grids.{size_of}
use Rattle.tree_set.specs.Loads.{load_on}
use Rattle.tree_set.specs.Order.{IsRising}
use Rattle.tree_set.specs.Routings.{ArePieces}
use Rattle.eco_route.specs.declared.net_index.NetIndex.{NetIndex}
use Rattle.eco_route.specs.declared.net_router.NetRouter.{NetRouter}
use Rattle.eco_route.specs.EditRefusals.{terminals_of}
use Rattle.eco_route.specs.NetIndices.{ids_of, IsIndexOf}
use Rattle.eco_route.specs.Routers.{IsRouterOn, router_loads}

-- one set per net, of pieces of the grid
pub record AreSetsOf (g : Grid) (nets : List NetSpec) (trees : List (List Piece)) : Type 0 where
  pub one_each : length trees ≡ length nets
  pub pieces : All (ArePieces (size_of g)) trees

-- the loads are those of the sets, and index and count are those of the nets
pub record IsEco (g : Grid) (nets : List NetSpec) (trees : List (List Piece)) (index : NetIndex) (terminals : ℕ) (router : NetRouter) : Type 0 where
  pub sets : AreSetsOf g nets trees
  pub rising : All IsRising trees
  pub indexed : IsIndexOf (ids_of nets) index
  pub counted : terminals ≡ terminals_of nets
  pub routed : IsRouterOn g router
  pub loaded : (r : ℕ) → slice_index (router_loads router) r ≡ load_on g nets trees r
