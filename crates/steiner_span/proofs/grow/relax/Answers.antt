use Rattle.std.proofs.Common.{◌≡◌, ◌+◌, false, inl, refl, sym, ◌∙◌, ap, subst, arith}
use Rattle.std.specs.Bool.{IsTrue}
use Rattle.grid_base.specs.declared.size.Size.{Size}
use Rattle.grid_base.specs.Spots.{IsSpot, spot_steps}
use Rattle.grid_graph.specs.Weighed.{IsAllowed}
use Rattle.shortest_paths.specs.LabelWords.{labels_number}
use Rattle.steiner_span.specs.Growths.{AfterOffer}
use Rattle.steiner_span.proofs.Growing.{relaxed_whole, offered_on, relaxes_on, still_at}
use Rattle.label_search.specs.Stamped.{far}
use Rattle.label_search.proofs.Relaxing.{OfferedBelow, spot_step, no_step, offered_more, offered_past, offered_all}
use Rattle.steiner_span.proofs.grow.relax.Goals as goal
use Rattle.steiner_span.proofs.grow.relax.Goals.{in-Some+then-allows, in-Some+else-allows, in_default}

pub offer-requires-clause-to : goal.offer-requires-clause-to
offer-requires-clause-to g c =
    let s = g.W.Weights.size c.args.weights.now in
    let from = c.args.from.vertex.0 in
    let table : c.spot_steps.result ≡ spot_steps s from = c.spot_steps.ensures ∙ ap (λ (x : Size). spot_steps x from) (c.size.ensures ∙ c.requires.size) in
    let step = spot_step s c.args.from c.loop-step.step-index c.spot_steps.result c.in-Some.to c.in-Some.by c.requires.from table c.loop-step-test.true c.in-Some.is in
    subst (λ (x : Size). IsSpot x c.in-Some.to) (sym (c.loop-step.invariant.on.fell.to.go_on.size ∙ c.requires.size)) step.spot

pub loop-step-preserved : goal.loop-step-preserved
loop-step-preserved g c =
    let s = g.W.Weights.size c.args.weights.now in
    let pieces = g.W.Weights.pieces c.args.weights.now in
    let from = c.args.from.vertex.0 in
    let reached = c.number-reached.result in
    let before = c.loop-step.invariant in
    let here = c.loop-step.step-index in
    let num = labels_number c.loop-step.labels in
    let table : c.spot_steps.result ≡ spot_steps s from = c.spot_steps.ensures ∙ ap (λ (x : Size). spot_steps x from) (c.size.ensures ∙ c.requires.size) in
    elim c.match-step.branch [
      | in-Some+then-allows w ↦
          let after = w.offer.ensures in
          let allowed : IsAllowed pieces w.in-Some.by = w.if-allows.ensures.0 refl in
          let step = spot_step s c.args.from here c.spot_steps.result w.in-Some.to w.in-Some.by c.requires.from table c.loop-step-test.true w.in-Some.is in
          let sum : reached + w.weight.result ≡ num from + allowed.0 = omega (arith, before.from, w.weight.ensures.value allowed.0 allowed.1) in
          let taken = subst (AfterOffer c.loop-step.labels w.offer.new.labels w.in-Some.to.vertex.0) sum after.taken in
          rw w.labels-is (record {
            keys = after.keys;
            on = relaxes_on s pieces c.args.labels.now c.loop-step.labels w.offer.new.labels before.on
                (offered_on s pieces c.loop-step.labels w.offer.new.labels from w.in-Some.to.vertex.0 allowed.0 w.in-Some.by c.requires.positive allowed.1 step.connects taken);
            from = still_at c.loop-step.labels w.offer.new.labels from w.in-Some.to.vertex.0 reached w.weight.result after.taken before.from;
            offered = offered_more s pieces (λ u. 0) far num (labels_number w.offer.new.labels) from reached here w.in-Some.to.vertex w.in-Some.by before.offered after.taken.falls step.step
                (λ k weighs. inl (omega (arith, after.lower, w.weight.ensures.value k weighs)));
          })
      | in-Some+else-allows w ↦
          let step = spot_step s c.args.from here c.spot_steps.result w.in-Some.to w.in-Some.by c.requires.from table c.loop-step-test.true w.in-Some.is in
          rw w.labels-is (record {
            keys = before.keys;
            on = before.on;
            from = before.from;
            offered = offered_more s pieces (λ u. 0) far num num from reached here w.in-Some.to.vertex w.in-Some.by before.offered (λ v. omega arith) step.step
                (λ k weighs. let yes : IsTrue false = w.if-allows.ensures.1 (k, weighs) in cc);
          })
      | in_default w ↦
          rw w.labels-is (record {
            keys = before.keys;
            on = before.on;
            from = before.from;
            offered = offered_past s pieces (λ u. 0) far num from reached here before.offered (no_step s from here c.spot_steps.result table w.in_default.is);
          })
    ]

pub returns-clause-relaxed : goal.returns-clause-relaxed
returns-clause-relaxed g c =
    let s = g.W.Weights.size c.args.weights.now in
    let pieces = g.W.Weights.pieces c.args.weights.now in
    let num = labels_number c.loop-step.labels in
    let all : c.loop-step.step-index ≡ 6 = omega arith in
    relaxed_whole s pieces c.loop-step.labels c.args.from.vertex.0
    (offered_all s pieces (λ u. 0) far num c.args.from.vertex.0 c.number-reached.result c.loop-step.invariant.from
    (subst (OfferedBelow s pieces (λ u. 0) far num c.args.from.vertex.0 c.number-reached.result) all c.loop-step.invariant.offered))
