use Rattle.std.proofs.Common.{◌<◌, ◌≤◌, ◌∙◌, sym, arith}
use Rattle.std.proofs.lemmas.Bool.{lt-ltb}
use Rattle.grid_base.specs.Lines.{stride}
use Rattle.tree_set.proofs.RunEnds.{begins_run-low, begins_run-tested}
use Rattle.route_text.proofs.Apart.{behind_step}
use Rattle.route_text.proofs.runs.begins_run.Goals as goal

pub holds_before-requires-clause-behind : goal.holds_before-requires-clause-behind
holds_before-requires-clause-behind c other =
    let s = c.args.size.now in
    let axis = c.args.axis in
    let high : stride axis s ≤ c.args.start.0 = omega (arith, c.step-step.ensures, c.if-start-step.false) in
    rw (c.along.ensures, c.step-step.ensures, c.requires.here other) (behind_step s axis c.args.start.0 high)

pub returns-then-start-step : goal.returns-then-start-step
returns-then-start-step c =
    let low : c.args.start.0 < stride c.args.axis c.args.size.now = omega (arith, c.step-step.ensures, c.if-start-step.true) in
    lt-ltb _ _ c.if-start-step.true ∙ sym (begins_run-low c.args.size.now c.args.axis c.args.tree.now c.args.start.0 low)

pub returns-else-start-step : goal.returns-else-start-step
returns-else-start-step c =
    let high : stride c.args.axis c.args.size.now ≤ c.args.start.0 = omega (arith, c.step-step.ensures, c.if-start-step.false) in
    begins_run-tested c.args.size.now c.args.axis c.args.tree.now c.args.start.0 c.holds_before.result high (rw (c.along.ensures, c.step-step.ensures) at c.holds_before.ensures)
