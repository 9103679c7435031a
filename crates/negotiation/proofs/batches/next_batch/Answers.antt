use Rattle.std.proofs.Common.{◌≡◌, ◌↔◌, ℕ, ◌<◌, ◌≤◌, ◌++◌, ◌∷◌, [], cond, length, get_or, ap, arith}
use Rattle.std.specs.Bool.{IsTrue}
use Rattle.routing_state.specs.States.{trees_of}
use Rattle.negotiation.specs.BatchSizes.{batch_size}
use Rattle.negotiation.specs.Due.{IsDueNet}
use Rattle.negotiation.proofs.Chosen.{batch_full, chosen_on}
use Rattle.negotiation.proofs.DueNets.{due_net}
use Rattle.negotiation.proofs.Found.{places_if}
use Rattle.negotiation.proofs.batches.next_batch.Goals as goal

pub returns-then-len-size-clause-batch : goal.returns-then-len-size-clause-batch
returns-then-len-size-clause-batch c =
    rw c.in_ok-push_if.ensures.pushed (places_if c.args.design.now c.loop-at.batch.items (get_or c.args.order.now c.loop-at.at 0) c.is_due-is_due.result c.loop-at.invariant.places
    (c.requires.order c.loop-at.at 0 (omega (arith, c.loop-at-test.true, c.loop-at.auto.at-end, c.requires.from))))

pub returns-then-len-size-clause-next : goal.returns-then-len-size-clause-next
returns-then-len-size-clause-next c =
    let d = c.args.design.now in
    let trees = trees_of c.args.state.now in
    let extents = c.args.tools.now.extents.items in
    let order = c.args.order.now in
    let before = c.loop-at.batch.items in
    let at = c.loop-at.at in
    let b = c.is_due-is_due.result in
    let Wanted : ℕ → Type 0 = IsDueNet d c.args.state.now extents c.args.due in
    let size : ℕ = batch_size (length d.nets) (length order) c.args.due in
    let within : at < length order = omega (arith, c.loop-at-test.true, c.loop-at.auto.at-end, c.requires.from) in
    let net : get_or order at 0 < length d.nets = c.requires.order at 0 within in
    let is : IsTrue b ↔ Wanted (get_or order at 0) =
    due_net d c.args.state.now extents c.args.due (get_or order at 0) b (omega (arith, net, c.requires.state.sets.one_each)) (omega (arith, net, c.requires.tools.extents)) c.is_due-is_due.ensures in
    let sized : c.batch_size-size.result ≡ size = rw c.list.ensures.items at c.batch_size-size.ensures in
    let full : size ≤ length (before ++ cond b (get_or order at 0 ∷ []) []) =
    omega (arith, c.if-len-size.true, sized, c.len.ensures, c.push_if.new.nets.ok.0, ap length c.in_ok-push_if.ensures.pushed) in
    rw c.in_ok-push_if.ensures.pushed
    (batch_full Wanted size order before c.args.from at b c.loop-at.auto.at within is c.loop-at.invariant.chosen c.loop-at.invariant.few full)

pub loop-at-preserved : goal.loop-at-preserved
loop-at-preserved c =
    let d = c.args.design.now in
    let extents = c.args.tools.now.extents.items in
    let order = c.args.order.now in
    let before = c.loop-at.batch.items in
    let at = c.loop-at.at in
    let b = c.is_due-is_due.result in
    let Wanted : ℕ → Type 0 = IsDueNet d c.args.state.now extents c.args.due in
    let size : ℕ = batch_size (length d.nets) (length order) c.args.due in
    let within : at < length order = omega (arith, c.loop-at-test.true, c.loop-at.auto.at-end, c.requires.from) in
    let net : get_or order at 0 < length d.nets = c.requires.order at 0 within in
    let is : IsTrue b ↔ Wanted (get_or order at 0) =
    due_net d c.args.state.now extents c.args.due (get_or order at 0) b (omega (arith, net, c.requires.state.sets.one_each)) (omega (arith, net, c.requires.tools.extents)) c.is_due-is_due.ensures in
    let sized : c.batch_size-size.result ≡ size = rw c.list.ensures.items at c.batch_size-size.ensures in
    record {
      places = rw c.in_ok-push_if.ensures.pushed (places_if d before (get_or order at 0) b c.loop-at.invariant.places net);
      chosen = rw c.in_ok-push_if.ensures.pushed (chosen_on Wanted order before c.args.from at b c.loop-at.auto.at within is c.loop-at.invariant.chosen);
      few = omega (arith, c.if-len-size.false, sized, c.len.ensures, c.push_if.new.nets.ok.0);
    }
