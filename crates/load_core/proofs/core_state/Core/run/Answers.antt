use Rattle.std.proofs.Common.{◌≡◌, ◌<◌, Bool, length, sym, subst, arith}
use Rattle.std.specs.Prelude.{if◌then◌else◌}
use Rattle.std.proofs.lemmas.Option.{slice_get_within}
use Rattle.load_core.specs.Events.{after}
use Rattle.load_core.proofs.Runs.{after-more}
use Rattle.load_core.proofs.core_state.Core.run.Goals as goal

pub loop-event-preserved : goal.loop-event-preserved
loop-event-preserved c =
    let mid = c.loop-event.self in
    let event = c.event-item.result in
    let made : c.step.new.self ≡ after mid event =
    subst (λ (b : Bool). c.step.new.self ≡ (if b then after mid event else mid)) c.if-not-branch.false c.in_ok-step.ensures.core in
    record {
      count = omega arith;
      after = after-more c.args.self.now c.args.events.now c.loop-event.event-index mid c.step.new.self event c.loop-event.invariant.after (omega arith) (sym c.event-item.is) (c.in_ok-step.ensures.lawful.0 c.if-not-branch.false) made;
      fit = c.step.ensures.fit;
    }

pub returns-clause-stopped : goal.returns-clause-stopped
returns-clause-stopped c = λ event at lawful.
    let in' : c.loop-event.made < length c.args.events.now = slice_get_within c.args.events.now c.loop-event.made event at in
    absurd (omega arith)
