use Rattle.std.proofs.Common.{sym, ◌∙◌, arith}
use Rattle.grid_base.specs.Neighbours.{steps}
use Rattle.grid_base.proofs.Neighbours.{present-none, present-some}
use Rattle.grid_base.proofs.sides.nth_step.Goals as goal
use Rattle.grid_base.proofs.sides.nth_step.Goals.{in-Some+else-left-eq0, in_default}

pub loop-side-preserved : goal.loop-side-preserved
loop-side-preserved c =
    let all = steps c.args.size c.args.v.0 in
    elim c.match-step_to.branch [
      | in-Some+else-left-eq0 w ↦
          rw w.left-is
          (present-some all c.loop-side.side c.loop-side.left w.in-Some.found c.loop-side-test.true (sym c.step_to.ensures ∙ w.in-Some.is) (omega (arith, w.if-left-eq0.false))
          ∙ c.loop-side.invariant)
      | in_default w ↦
          rw w.left-is (present-none all c.loop-side.side c.loop-side.left c.loop-side-test.true (sym c.step_to.ensures ∙ w.in_default.is) ∙ c.loop-side.invariant)
    ]
