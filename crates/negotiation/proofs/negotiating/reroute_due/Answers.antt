use Rattle.std.proofs.Common.{arith}
use Rattle.negotiation.proofs.Steps.{kept_itself, kept_then}
use Rattle.negotiation.proofs.negotiating.reroute_due.Goals as goal

pub batches-init : goal.batches-init
batches-init g c = record { kept = kept_itself c.args.design.now c.args.rerouting.now c.requires.of; tools = c.requires.tools; within = omega arith }

pub next_batch-requires-clause-state : goal.next_batch-requires-clause-state
next_batch-requires-clause-state g c = rw c.state-now.ensures c.batches.invariant.kept.of.state

pub search-requires-clause-state : goal.search-requires-clause-state
search-requires-clause-state g c κs within = rw c.state-now.ensures c.batches.invariant.kept.of.state

pub batches-smaller : goal.batches-smaller
batches-smaller g c = omega (arith, c.in_ok-at.ensures.on.0, c.in_ok-at.ensures.on.1)

pub batches-preserved : goal.batches-preserved
batches-preserved g c = record {
  kept = kept_then c.args.design.now c.args.rerouting.now c.batches.rerouting c.put_found.new.rerouting c.batches.invariant.kept c.put_found.ensures.kept;
  tools = c.put_found.ensures.tools;
  within = c.in_ok-at.ensures.on.1;
}
