use Rattle.std.proofs.Common.{◌<◌, length, arith}
use Rattle.grid_graph.specs.Grids.{size_of}
use Rattle.tree_set.specs.Order.{IsRising}
use Rattle.tree_set.specs.Routings.{ArePieces}
use Rattle.tree_set.proofs.Loads.{IsCounted-edge, IsCounted-via, edge_number}
use Rattle.routing_passes.proofs.loads.add_edges.Goals as goal
use Rattle.routing_passes.proofs.loads.add_edges.Goals.{in-Edge, in_default}

pub loop-p-preserved : goal.loop-p-preserved
loop-p-preserved c =
    let g = c.args.grid.now in
    let ps = c.pieces-p-items.result.now in
    let i = c.loop-p.p-index in
    let rising : IsRising ps = rw c.pieces-p-items.ensures.listed c.pieces-p-items.ensures.rising in
    let pieces : ArePieces (size_of g) ps = rw c.pieces-p-items.ensures.listed c.requires.pieces in
    elim c.match-p.branch [
      | in-Edge w ↦
          let x = w.in-Edge.e in
          let number = edge_number (size_of g) ps i _ x pieces c.loop-p-test.true w.in-Edge.is in
          let inside : x.0 < length c.loop-p.loads = omega (arith, number, c.loop-p.auto.loads, c.requires.table) in
          let small = rw w.demand.ensures.value at w.demand.ensures.limit in
          rw (w.loads-is, w.from.ensures, w.demand.ensures.value)
          (IsCounted-edge g c.args.width ps i _ x c.args.loads.now c.loop-p.loads rising c.loop-p-test.true w.in-Edge.is inside
          small c.loop-p.invariant)
      | in_default w ↦
          rw w.loads-is (IsCounted-via g c.args.width ps i _ w.in_default.field-0 c.args.loads.now c.loop-p.loads
          c.loop-p-test.true w.in_default.is c.loop-p.invariant)
    ]
