use Rattle.std.proofs.Common.{arith}
use Rattle.negotiation.proofs.Steps.{improved_itself, improved_then}
use Rattle.negotiation.proofs.descending.run_pass.Goals as goal

pub batches-init : goal.batches-init
batches-init g c = record { improved = improved_itself c.args.design.now c.args.state.now c.requires.state; tools = c.requires.tools; within = omega arith }

pub batches-smaller : goal.batches-smaller
batches-smaller g c = omega (arith, c.in_ok-at.ensures.on.0, c.in_ok-at.ensures.on.1)

pub batches-preserved : goal.batches-preserved
batches-preserved g c = record {
  improved = improved_then c.args.design.now c.args.state.now c.batches.state c.offer_found.new.state c.batches.invariant.improved c.offer_found.ensures.improved;
  tools = c.search.ensures.tools;
  within = c.in_ok-at.ensures.on.1;
}
