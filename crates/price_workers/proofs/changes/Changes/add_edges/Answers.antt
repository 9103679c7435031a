use Rattle.std.proofs.Common.{◌/◌, ◌<◌, length, sym, subst, arith}
use Rattle.price_workers.proofs.Common.{ArePieces, entries_per_mark, size_of}
use Rattle.tree_set.proofs.Loads.{edge_number}
use Rattle.price_workers.proofs.MarkSteps.{IsMarkedUpTo-edge, IsMarkedUpTo-via}
use Rattle.price_workers.proofs.changes.Changes.add_edges.Goals.{in-Edge, in_default}
use Rattle.price_workers.proofs.changes.Changes.add_edges.Goals as goal

pub loop-p-preserved : goal.loop-p-preserved
loop-p-preserved c =
    let inv = c.loop-p.invariant in
    let s = size_of c.args.grid.now in
    let ps = c.pieces-p-items.result.now in
    let pieces : ArePieces s ps = subst (ArePieces s) (sym c.pieces-p-items.ensures.listed) c.requires.pieces in
    elim c.match-p.branch [
      | in-Edge w ↦
          let number = edge_number s ps c.loop-p.p-index _ w.in-Edge.e pieces c.loop-p-test.true w.in-Edge.is in
          let inside : w.in-Edge.e.0 / entries_per_mark < length c.loop-p.self.marks.items = omega (arith, number, inv.long, c.requires.long) in
          rw (w.self-is, w.add.ensures) (IsMarkedUpTo-edge ps c.loop-p.p-index _ w.in-Edge.e _ _ c.loop-p-test.true w.in-Edge.is inside inv)
      | in_default w ↦
          rw w.self-is (IsMarkedUpTo-via ps c.loop-p.p-index _ w.in_default.field-0 _ _ c.loop-p-test.true w.in_default.is inv)
    ]
