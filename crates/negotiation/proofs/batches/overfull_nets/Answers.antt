use Rattle.std.proofs.Common.{◌≡◌, ◌<◌, ℕ, length, ap, subst, arith}
use Rattle.std.specs.List.{range_with_len}
use Rattle.routing_state.specs.States.{trees_of}
use Rattle.negotiation.specs.Chosen.{AreChosen}
use Rattle.negotiation.specs.Due.{IsOverfullNet}
use Rattle.negotiation.proofs.Chosen.{chosen_next}
use Rattle.negotiation.proofs.DueNets.{overfull_net}
use Rattle.negotiation.proofs.Found.{length_if, places_if}
use Rattle.negotiation.proofs.batches.overfull_nets.Goals as goal

pub loop-net-preserved : goal.loop-net-preserved
loop-net-preserved c =
    let d = c.args.design.now in
    let state = c.args.state.now in
    let net = c.loop-net.net in
    let due = c.holds_overfull-is_overfull.result in
    let within : net < length d.nets = omega (arith, c.loop-net-test.true, c.loop-net.auto.net-end, ap length c.list-net-end.ensures.items) in
    let there : net < length (trees_of state) = omega (arith, within, c.requires.state.sets.one_each) in
    record {
      places = rw c.in_ok-push_if.ensures.pushed (places_if d c.loop-net.nets.items net due c.loop-net.invariant.places within);
      chosen = rw c.in_ok-push_if.ensures.pushed
          (chosen_next (IsOverfullNet d state) c.loop-net.nets.items net due (overfull_net d state net due there c.holds_overfull-is_overfull.ensures) c.loop-net.invariant.chosen);
      few = rw c.in_ok-push_if.ensures.pushed (omega (arith, length_if c.loop-net.nets.items net due, c.loop-net.invariant.few));
    }

pub returns-clause-exactly : goal.returns-clause-exactly
returns-clause-exactly c =
    let d = c.args.design.now in
    let all : c.loop-net.net ≡ length d.nets = omega (arith, c.loop-net-test.false, c.loop-net.auto.net-end, ap length c.list-net-end.ensures.items) in
    subst (λ (n : ℕ). AreChosen (IsOverfullNet d c.args.state.now) (range_with_len 0 n) c.loop-net.nets.items) all c.loop-net.invariant.chosen
