use Rattle.std.proofs.Common.{◌-◌, ◌*◌, ◌<◌, length, arith}
use Rattle.grid_base.specs.Numbers.{edge_axis, vertices}
use Rattle.grid_base.proofs.Lines.{stride-positive}
use Rattle.straight_runs.proofs.Sums.{none_summed, first_summed, next_summed}
use Rattle.straight_runs.proofs.summing.sum_up.Goals as goal
use Rattle.straight_runs.proofs.summing.sum_up.Goals.{then-e-stride, else-e-stride}

pub loop-e-init : goal.loop-e-init
loop-e-init c = none_summed c.args.size c.args.table.now

pub loop-e-preserved : goal.loop-e-preserved
loop-e-preserved c =
    let s = c.args.size in
    let e = c.loop-e.e in
    let by = c.edge_stride-stride.ensures in
    let within : e < 2 * vertices s = omega (arith, c.loop-e-test.true, c.vertices-e-end.ensures) in
    let inside : e < length c.loop-e.table = omega (arith, within, c.loop-e.auto.table, c.requires) in
    let some = stride-positive s (edge_axis e) in
    elim c.if-e-stride.branch [
      | then-e-stride w ↦
          rw w.table-is
          (next_summed s c.args.table.now c.loop-e.table e (e - c.edge_stride-stride.result) within inside (omega (arith, some)) (omega (arith, by, w.if-e-stride.true)) c.loop-e.invariant)
      | else-e-stride w ↦
          rw w.table-is (first_summed s c.args.table.now c.loop-e.table e within (omega (arith, by, w.if-e-stride.false)) c.loop-e.invariant)
    ]

pub returns : goal.returns
returns c load are small e within = c.loop-e.invariant.done load are small e (omega (arith, within, c.loop-e-test.false, c.vertices-e-end.ensures))
