-- Loads that gain the sets of a turn, net by net.
use Rattle.std.proofs.Common.{ℕ, ◌+◌, ◌<◌, ◌≤◌, List, [], length, take, slice_index, arith}
use Rattle.std.proofs.lemmas.List.{length-take}
use Rattle.std.proofs.lemmas.Option.{slice_get_within}
use Rattle.grid_base.specs.declared.piece.Piece.{Piece}
use Rattle.grid_base.specs.Lists.{At}
use Rattle.grid_graph.specs.declared.grid.Grid.{Grid}
use Rattle.grid_graph.specs.declared.net_spec.NetSpec.{NetSpec}
use Rattle.grid_graph.specs.Grids.{size_of, IsNetWidth}
use Rattle.grid_graph.specs.Limits.{max_load}
use Rattle.price_workers.specs.TreeLoads.{GainsTree}
use Rattle.price_workers.proofs.NetLoads.{load_on-next}
use Rattle.routing_passes.proofs.TreeLimits.{tree_load-within}
use Rattle.sharing_runs.proofs.Between.{load_on-none}
use Rattle.tree_set.specs.Loads.{max_tree_load}
use Rattle.tree_set.specs.Order.{IsRising}
use Rattle.tree_set.specs.Routings.{ArePieces}
use Rattle.bound_climb.specs.ClimbTurns.{GainsSets, HaveRoomFor}

pub gains_none : (g : Grid) (nets : List NetSpec) (loads : List ℕ) → GainsSets g nets [] loads loads
gains_none g nets loads = record {
  value = λ r. omega (arith, load_on-none g nets r);
  limit = λ r. omega arith;
}

pub gains_next : (g : Grid) (nets : List NetSpec) (trees : List (List Piece)) (k : ℕ) (n : NetSpec) (tree : List Piece) (old mid new : List ℕ)
    → At nets k n → At trees k tree → IsNetWidth g n.width → IsRising tree → ArePieces (size_of g) tree
    → GainsSets g nets (take k trees) old mid → GainsTree g n.width tree mid new → GainsSets g nets (take (k + 1) trees) old new
gains_next g nets trees k n tree old mid new at stands width rising pieces before gains =
    let within : k < length trees = slice_get_within trees k tree stands in
    record {
      value = λ r. omega (arith, gains r, before.value r, load_on-next g nets trees k n tree r at stands);
      limit = λ r. omega (
        arith,
        gains r,
        before.limit r,
        tree_load-within g n.width tree r width rising pieces,
        length-take k trees,
        length-take (k + 1) trees,
        within,
      );
    }

-- there is room for the set of the net whose turn it is
pub room_left : (g : Grid) (nets : List NetSpec) (trees : List (List Piece)) (k : ℕ) (old mid : List ℕ) → k < length trees
    → HaveRoomFor (length trees) old → GainsSets g nets (take k trees) old mid → (r : ℕ) → slice_index mid r + max_tree_load ≤ max_load
room_left g nets trees k old mid within room before r = omega (arith, room r, before.limit r, length-take k trees, within)
