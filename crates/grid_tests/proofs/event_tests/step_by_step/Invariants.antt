use Rattle.load_core.specs.Events.{IsFit}
use Rattle.grid_tests.proofs.event_tests.step_by_step.Given as goal

abbrev pub invariant-loop-event : goal.invariant-loop-event
invariant-loop-event l = IsFit l.core
