use Rattle.std.proofs.Common.{◌≡◌, ℕ, ◌+◌, ◌<◌, List, [], length, slice_range, sym, ◌∙◌, ap, subst, arith}
use Rattle.grid_base.specs.declared.size.Size.{Size}
use Rattle.grid_graph.specs.declared.net_spec.NetSpec.{NetSpec}
use Rattle.steiner_exact.specs.TreeLabelWords.{AreTreeLabels}
use Rattle.even_parts.specs.EvenParts.{part_start}
use Rattle.even_parts.proofs.PartStarts.{part_start-le, part_start-within}
use Rattle.price_workers.proofs.TurnFacts.{stands}
use Rattle.dual_bound.proofs.PartSums.{slice_range-empty}
use Rattle.bound_climb.specs.ClimbTurns.{AreStepsSeen, IsStepSeen, seen_nets}
use Rattle.bound_climb.proofs.ClimbParts.{AllZip-next}
use Rattle.bound_climb.proofs.climb_turn.steps_of_part.Goals as goal

pub loop-net-init : goal.loop-net-init
loop-net-init c =
    let s = c.args.sight.now in
    let from = c.part_start-from.result in
    let none : AreStepsSeen s (slice_range (seen_nets s) from from) [] = subst (λ (ns : List NetSpec). AreStepsSeen s ns []) (sym (slice_range-empty (seen_nets s) from)) tt in
    record {
      steps = subst (AreStepsSeen s (slice_range (seen_nets s) from from)) (sym c.in_ok-trees.ensures.items) none;
      labels = subst (λ (z : Size). AreTreeLabels z c.in_ok-labels.labels) c.size.ensures c.in_ok-labels.ensures;
    }

pub step-requires-clause-net : goal.step-requires-clause-net
step-requires-clause-net c =
    let parts = c.args.parts in
    let nets = seen_nets c.args.sight.now in
    let end : c.part_start-to.result ≡ part_start parts (length nets) (c.args.part + 1) = c.part_start-to.ensures.start ∙ ap (λ (ns : List NetSpec). part_start parts (length ns) (c.args.part + 1)) c.list-nets.ensures.items in
    omega (arith, c.loop-net-test.true, end, part_start-within parts (length nets) (c.args.part + 1) (omega (arith, c.requires.part)) (omega (arith, c.requires.part)))

pub loop-net-preserved : goal.loop-net-preserved
loop-net-preserved c =
    let s = c.args.sight.now in
    let parts = c.args.parts in
    let nets = seen_nets s in
    let net = c.loop-net.net in
    let end : c.part_start-to.result ≡ part_start parts (length nets) (c.args.part + 1) = c.part_start-to.ensures.start ∙ ap (λ (ns : List NetSpec). part_start parts (length ns) (c.args.part + 1)) c.list-nets.ensures.items in
    let within : net < length nets = omega (arith, c.loop-net-test.true, end, part_start-within parts (length nets) (c.args.part + 1) (omega (arith, c.requires.part)) (omega (arith, c.requires.part))) in
    let found = stands nets net within in
    let tree = c.in_ok-step.field-0 in
    record {
      steps = subst (AreStepsSeen s (slice_range nets c.part_start-from.result (net + 1))) (sym c.in_ok-push.ensures.items)
          (AllZip-next (IsStepSeen s) nets c.loop-net.trees.items c.part_start-from.result net found.0 tree c.loop-net.auto.net found.1 c.loop-net.invariant.steps (c.in_ok-step.ensures.step found.0 found.1));
      labels = c.in_ok-step.ensures.labels;
    }

pub returns : goal.returns
returns c =
    let s = c.args.sight.now in
    let parts = c.args.parts in
    let part = c.args.part in
    let nets = seen_nets s in
    let begin : c.part_start-from.result ≡ part_start parts (length nets) part = c.part_start-from.ensures.start ∙ ap (λ (ns : List NetSpec). part_start parts (length ns) part) c.list-nets.ensures.items in
    let end : c.part_start-to.result ≡ part_start parts (length nets) (part + 1) = c.part_start-to.ensures.start ∙ ap (λ (ns : List NetSpec). part_start parts (length ns) (part + 1)) c.list-nets.ensures.items in
    let order = part_start-le parts (length nets) part (part + 1) (omega (arith, c.requires.part)) (omega arith) in
    let last : c.loop-net.net ≡ part_start parts (length nets) (part + 1) = omega (arith, c.loop-net-test.false, c.loop-net.auto.net-end, begin, end, order) in
    record {
      steps = subst (λ (k : ℕ). AreStepsSeen s (slice_range nets (part_start parts (length nets) part) k) c.loop-net.trees.items) last
          (subst (λ (k : ℕ). AreStepsSeen s (slice_range nets k c.loop-net.net) c.loop-net.trees.items) begin c.loop-net.invariant.steps);
    }
