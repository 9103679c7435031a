use Rattle.std.proofs.Common.{◌≡◌}
use Rattle.load_core.specs.Events.{IsFit}
use Rattle.load_core.specs.Runs.{IsAfter}
use Rattle.load_core.proofs.core_state.Core.run.Given as goal

abbrev pub invariant-loop-event : goal.invariant-loop-event
invariant-loop-event l = record {
  count : l.made ≡ l.event-index;
  after : IsAfter l.initial.self l.events l.event-index l.self;
  fit : IsFit l.self;
}
