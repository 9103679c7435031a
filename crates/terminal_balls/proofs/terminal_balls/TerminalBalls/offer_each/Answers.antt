use Rattle.std.proofs.Common.{◌≡◌, ◌+◌, ℕ, false, sym, ◌∙◌, ap, subst, arith}
use Rattle.std.specs.Bool.{IsTrue}
use Rattle.grid_base.specs.declared.size.Size.{Size}
use Rattle.grid_base.specs.Spots.{IsSpot, spot_steps}
use Rattle.label_search.proofs.Relaxing.{spot_step, no_step}
use Rattle.shortest_paths.specs.LabelWords.{labels_size}
use Rattle.terminal_balls.specs.Balls.{balls_of}
use Rattle.terminal_balls.specs.Growths.{IsMet}
use Rattle.terminal_balls.proofs.Growing.{GrowOn-refl, GrowOn-trans, IsSame-trans}
use Rattle.terminal_balls.proofs.Offering.{AreMetBelow, met_more, met_past, met_all}
use Rattle.terminal_balls.proofs.terminal_balls.TerminalBalls.offer_each.Goals as goal
use Rattle.terminal_balls.proofs.terminal_balls.TerminalBalls.offer_each.Goals.{After-spot_steps, in-Some+then-allows, in-Some+else-allows, in_default}

table : (g : _) (c : After-spot_steps g)
    → c.spot_steps.result ≡ spot_steps (g.W.Weights.size c.args.weights.now) c.args.from.vertex.0
table g c =
    let from = c.args.from.vertex.0 in
    let size : c.size-size.result ≡ g.W.Weights.size c.args.weights.now = c.size-size.ensures ∙ c.requires.size in
    ◌∙◌ {b = spot_steps c.size-size.result from} c.spot_steps.ensures (ap (λ (x : Size). spot_steps x from) size)

pub offer-requires-clause-to : goal.offer-requires-clause-to
offer-requires-clause-to g c =
    let s = g.W.Weights.size c.args.weights.now in
    let step = spot_step s c.args.from c.loop-step.step-index c.spot_steps.result c.in-Some.to c.in-Some.by c.requires.from
    (table g (goal.at.offer-requires-clause-to g c).After-spot_steps) c.loop-step-test.true c.in-Some.is in
    let same : s ≡ labels_size c.loop-step.self.labels = sym (c.loop-step.invariant.grow_on.size ∙ c.requires.size) in
    subst (λ (x : Size). IsSpot x c.in-Some.to) same step.spot

pub loop-step-preserved : goal.loop-step-preserved
loop-step-preserved g c =
    let s = g.W.Weights.size c.args.weights.now in
    let pieces = g.W.Weights.pieces c.args.weights.now in
    let over = g.W.FlooredWeights.over c.args.weights.now in
    let from = c.args.from.vertex.0 in
    let owner = c.args.owner in
    let reached = c.args.reached in
    let before = c.loop-step.invariant in
    let here = c.loop-step.step-index in
    let first = c.args.self.now in
    let old = c.loop-step.self in
    let steps : c.spot_steps.result ≡ spot_steps s from = table g (goal.at.loop-step-preserved g c).After-spot_steps in
    elim c.match-step.branch [
      | in-Some+then-allows w ↦
          let after = w.offer.ensures in
          let to = w.in-Some.to.vertex in
          let new = w.offer.new.self in
          let step = spot_step s c.args.from here c.spot_steps.result w.in-Some.to w.in-Some.by c.requires.from steps
          c.loop-step-test.true w.in-Some.is in
          rw w.self-is (record {
            kept = after.kept;
            grow_on = GrowOn-trans first old new before.grow_on after.grow_on;
            same = IsSame-trans (balls_of first) (balls_of old) (balls_of new) from before.same
                (after.same from (omega (arith, before.same.0, c.requires.number)));
            met = met_more s pieces over (balls_of old) (balls_of new) from owner reached here to w.in-Some.by before.met
                after.grow_on.shrink before.kept.small step.step
                (λ k weighs. subst (λ (n : ℕ). IsMet (balls_of new) owner (reached + n) to.0)
                (w.weight_beyond.ensures.value k weighs) after.met);
          })
      | in-Some+else-allows w ↦
          let step = spot_step s c.args.from here c.spot_steps.result w.in-Some.to w.in-Some.by c.requires.from steps
          c.loop-step-test.true w.in-Some.is in
          rw w.self-is (record {
            kept = before.kept;
            grow_on = before.grow_on;
            same = before.same;
            met = met_more s pieces over (balls_of old) (balls_of old) from owner reached here w.in-Some.to.vertex w.in-Some.by
                before.met (GrowOn-refl old).shrink before.kept.small step.step
                (λ k weighs. let yes : IsTrue false = w.if-allows.ensures.1 (k, weighs) in cc);
          })
      | in_default w ↦
          rw w.self-is (record {
            kept = before.kept;
            grow_on = before.grow_on;
            same = before.same;
            met = met_past s pieces over (balls_of old) from owner reached here before.met
                (no_step s from here c.spot_steps.result steps w.in_default.is);
          })
    ]

pub returns-clause-met : goal.returns-clause-met
returns-clause-met g c =
    let s = g.W.Weights.size c.args.weights.now in
    let pieces = g.W.Weights.pieces c.args.weights.now in
    let over = g.W.FlooredWeights.over c.args.weights.now in
    let balls = balls_of c.loop-step.self in
    let from = c.args.from.vertex.0 in
    let all : c.loop-step.step-index ≡ 6 = omega arith in
    met_all s pieces over balls from c.args.owner c.args.reached
    (subst (AreMetBelow s pieces over balls from c.args.owner c.args.reached) all c.loop-step.invariant.met)
