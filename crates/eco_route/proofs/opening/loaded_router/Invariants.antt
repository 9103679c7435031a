use Rattle.std.proofs.Common.{◌≡◌, ◌<◌, ℕ, List, take, slice_index}
use Rattle.grid_base.specs.declared.piece.Piece.{Piece}
use Rattle.grid_base.specs.Lists.{At}
use Rattle.tree_set.specs.Order.{IsRising}
use Rattle.tree_set.specs.Loads.{load_on}
use Rattle.eco_route.specs.Routers.{IsRouterOn, router_loads}
use Rattle.eco_route.proofs.opening.loaded_router.Given as goal

-- the load of the sets so far
abbrev pub invariant-loop-net : goal.invariant-loop-net
invariant-loop-net l = record {
  routed : IsRouterOn l.design.grid l.router;
  rising : (k : ℕ) (tree : List Piece) → k < l.net → At l.trees k tree → IsRising tree;
  loaded : (r : ℕ) → slice_index (router_loads l.router) r ≡ load_on l.design.grid l.design.nets (take l.net l.trees) r;
}
