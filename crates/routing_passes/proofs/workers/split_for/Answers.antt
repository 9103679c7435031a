use Rattle.routing_passes.specs.Passes.{pass_in}
use Rattle.routing_passes.proofs.PartSteps.{turns_begin}
use Rattle.routing_passes.proofs.PassSplits.{IsGiven, halves_served, may_be_given}
use Rattle.routing_passes.proofs.workers.split_for.Goals as goal
use Rattle.routing_passes.proofs.workers.split_for.Goals.{In_ok-given}

-- what was worked out is the load in the parts from the middle worker on
given : (c : In_ok-given) → IsGiven (pass_in c.args.input) c.args.middle c.args.last c.in_ok-given.given.items
given c =
    let start = turns_begin c.args.middle c.requires.pass c.turns_of-from.ensures.from in
    let end = turns_begin c.args.last c.requires.pass c.turns_of-from.ensures.to in
    record {
      long = c.in_ok-given.ensures.long;
      amounts = λ r. rw (c.as_slice-positions.ensures.value, start, end) at (c.in_ok-given.ensures.loads r);
    }

pub split-requires-clause-part : goal.split-requires-clause-part
split-requires-clause-part c =
    rw (c.from-allotment.ensures, c.deref.ensures.value, c.requires.pass.words)
    (may_be_given c.requires.pass c.requires.range c.requires.share (given (goal.at.split-requires-clause-part c).In_ok-given))

pub returns : goal.returns
returns c =
    let event = rw (c.from-allotment.ensures, c.deref.ensures.value) at c.in_ok-other.ensures.event in
    let other = rw (c.from-allotment.ensures, c.deref.ensures.value) at c.in_ok-other.ensures.other in
    rw (event, other) (record {
      halves = halves_served c.requires.pass c.requires.range c.requires.share (given (goal.at.returns c).In_ok-given);
    })
