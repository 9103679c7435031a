use Rattle.std.proofs.Common.{◌≡◌, ℕ, false, refl, sym, ◌∙◌, ap, subst, arith}
use Rattle.std.specs.Bool.{IsTrue}
use Rattle.grid_base.specs.declared.size.Size.{Size}
use Rattle.grid_base.specs.Numbers.{IsVertex}
use Rattle.grid_base.specs.Spots.{spot_steps}
use Rattle.shortest_paths.specs.LabelWords.{labels_number}
use Rattle.shortest_paths.proofs.Backwards.{NoneReachesBelow, none_more, none_past, some_reaches}
use Rattle.label_search.proofs.Relaxing.{spot_step, no_step}
use Rattle.steiner_span.proofs.way_back.step_back.Goals as goal
use Rattle.steiner_span.proofs.way_back.step_back.Goals.{in-Some+else-reaches, in_default}

pub reaches-requires : goal.reaches-requires
reaches-requires g c =
    let s = g.W.Weights.size c.args.weights.now in
    let here = c.args.here.vertex.0 in
    let table : c.spot_steps.result ≡ spot_steps s here = c.spot_steps.ensures ∙ ap (λ (x : Size). spot_steps x here) (c.size.ensures ∙ c.requires.size) in
    let leads = spot_step s c.args.here c.loop-step.step-index c.spot_steps.result c.in-Some.before c.in-Some.by c.requires.here table c.loop-step-test.true c.in-Some.is in
    subst (λ (x : Size). IsVertex x c.in-Some.before.vertex.0) (sym c.requires.size) leads.spot.vertex

pub returns-then-reaches-clause-spot : goal.returns-then-reaches-clause-spot
returns-then-reaches-clause-spot g c =
    let s = g.W.Weights.size c.args.weights.now in
    let here = c.args.here.vertex.0 in
    let table : c.spot_steps.result ≡ spot_steps s here = c.spot_steps.ensures ∙ ap (λ (x : Size). spot_steps x here) (c.size.ensures ∙ c.requires.size) in
    (spot_step s c.args.here c.loop-step.step-index c.spot_steps.result c.in-Some.before c.in-Some.by c.requires.here table c.loop-step-test.true c.in-Some.is).spot

pub returns-then-reaches-clause-step : goal.returns-then-reaches-clause-step
returns-then-reaches-clause-step g c =
    let s = g.W.Weights.size c.args.weights.now in
    let here = c.args.here.vertex.0 in
    let table : c.spot_steps.result ≡ spot_steps s here = c.spot_steps.ensures ∙ ap (λ (x : Size). spot_steps x here) (c.size.ensures ∙ c.requires.size) in
    let leads = spot_step s c.args.here c.loop-step.step-index c.spot_steps.result c.in-Some.before c.in-Some.by c.requires.here table c.loop-step-test.true c.in-Some.is in
    let reaches = c.if-reaches.ensures.0 refl in
    record {
      weight = reaches.weight;
      step = record { connects = leads.connects; weighs = reaches.weighs };
      less = omega (arith, reaches.within, c.number-number.ensures.number);
    }

pub loop-step-preserved : goal.loop-step-preserved
loop-step-preserved g c =
    let s = g.W.Weights.size c.args.weights.now in
    let pieces = g.W.Weights.pieces c.args.weights.now in
    let num = labels_number c.args.labels.now in
    let here = c.args.here.vertex.0 in
    let table : c.spot_steps.result ≡ spot_steps s here = c.spot_steps.ensures ∙ ap (λ (x : Size). spot_steps x here) (c.size.ensures ∙ c.requires.size) in
    elim c.match-step.branch [
      | in-Some+else-reaches w ↦
          none_more s pieces num here c.number-number.result c.loop-step.step-index w.in-Some.before.vertex w.in-Some.by c.loop-step.invariant
          (spot_step s c.args.here c.loop-step.step-index c.spot_steps.result w.in-Some.before w.in-Some.by c.requires.here table c.loop-step-test.true w.in-Some.is).step
          (λ reaches. let yes : IsTrue false = w.if-reaches.ensures.1 reaches in cc)
      | in_default w ↦
          none_past s pieces num here c.number-number.result c.loop-step.step-index c.loop-step.invariant
          (no_step s here c.loop-step.step-index c.spot_steps.result table w.in_default.is)
    ]

pub returns-clause-found : goal.returns-clause-found
returns-clause-found g c =
    let s = g.W.Weights.size c.args.weights.now in
    let pieces = g.W.Weights.pieces c.args.weights.now in
    let num = labels_number c.args.labels.now in
    let here = c.args.here.vertex.0 in
    let all : c.loop-step.step-index ≡ 6 = omega arith in
    absurd (some_reaches s pieces num here c.requires.behind
    (subst (λ (n : ℕ). NoneReachesBelow s pieces num here n 6) c.number-number.ensures.number (subst (NoneReachesBelow s pieces num here c.number-number.result) all c.loop-step.invariant)))
