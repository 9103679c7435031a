-- What routes single nets.
use Rattle.std.specs.Prelude.{ℕ, ◌≡◌, List, None}
use Rattle.edge_prices.specs.Resting.{RestOn, resting_scale, resting_budget, resting_loads}
use Rattle.grid_graph.specs.declared.grid.Grid.{Grid}
use Rattle.grid_graph.specs.Grids.{size_of}
use Rattle.grid_graph.specs.GroundComponents.{AreGroundComponents}
use Rattle.steiner_exact.specs.TreeLabelWords.{AreTreeLabels}
use Rattle.eco_route.specs.declared.net_router.NetRouter.{NetRouter}
use Rattle.eco_route.specs.Scales.{eco_scale}

-- the loads that the prices follow
abbrev pub router_loads : NetRouter → List ℕ
router_loads r = resting_loads r.prices

-- all that it keeps is that of this grid, and its prices have the scale of an eco step and no budget
pub record IsRouterOn (g : Grid) (r : NetRouter) : Type 0 where
  pub components : AreGroundComponents g r.components
  pub priced : RestOn g r.prices
  pub scaled : resting_scale r.prices ≡ eco_scale
  pub no_budget : resting_budget r.prices ≡ None
  pub labelled : AreTreeLabels (size_of g) r.labels
