use Rattle.std.proofs.Common.{◌≡◌, ◌+◌, ℕ, false, refl, sym, ◌∙◌, ap, arith, subst}
use Rattle.std.specs.Bool.{IsTrue}
use Rattle.grid_base.specs.declared.size.Size.{Size}
use Rattle.grid_base.specs.Spots.{IsSpot, spot_steps}
use Rattle.grid_graph.specs.Weighed.{IsAllowed}
use Rattle.label_search.specs.Rows.{number_in, size_in}
use Rattle.label_search.specs.Runs.{TakesOffer, IsAnswered}
use Rattle.label_search.proofs.Offers.{offered_goes_on, offered_from}
use Rattle.label_search.proofs.Relaxing.{OfferedBelow, spot_step, no_step, Advances-refl, Advances-trans, offered_none}
use Rattle.label_search.proofs.Relaxing.{offered_more, offered_past, offered_all}
use Rattle.label_search.proofs.search.relax.Goals as goal
use Rattle.label_search.proofs.search.relax.Goals.{in-Some+then-allows, in-Some+else-allows, in_default}

pub loop-step-init : goal.loop-step-init
loop-step-init g c =
    let s = g.W.Weights.size c.args.weights.now in
    let pieces = g.W.Weights.pieces c.args.weights.now in
    record {
      search = c.requires.search;
      goes_on = Advances-refl s pieces c.args.row.now;
      from = sym c.number-reached.ensures.number;
      offered = offered_none s pieces (g.B.Bound.rest c.args.bound.now) c.args.limit
          (number_in c.args.row.now) c.args.from.vertex.0 c.number-reached.result;
    }

pub offer-requires-clause-to : goal.offer-requires-clause-to
offer-requires-clause-to g c =
    let s = g.W.Weights.size c.args.weights.now in
    let table : c.spot_steps.result ≡ spot_steps s c.args.from.vertex.0 =
    c.spot_steps.ensures ∙ ap (λ (x : Size). spot_steps x c.args.from.vertex.0) (c.size.ensures ∙ c.requires.size) in
    let step = spot_step s c.args.from c.loop-step.step-index c.spot_steps.result c.in-Some.to c.in-Some.by c.requires.from
    table c.loop-step-test.true c.in-Some.is in
    let same : s ≡ size_in c.loop-step.row = sym (c.loop-step.invariant.goes_on.fell.found.size ∙ c.requires.size) in
    subst (λ (x : Size). IsSpot x c.in-Some.to) same step.spot

pub loop-step-preserved : goal.loop-step-preserved
loop-step-preserved g c =
    let s = g.W.Weights.size c.args.weights.now in
    let pieces = g.W.Weights.pieces c.args.weights.now in
    let rest = g.B.Bound.rest c.args.bound.now in
    let limit = c.args.limit in
    let from = c.args.from.vertex.0 in
    let reached = c.number-reached.result in
    let before = c.loop-step.invariant in
    let here = c.loop-step.step-index in
    let old = c.loop-step.row in
    let table : c.spot_steps.result ≡ spot_steps s from =
    c.spot_steps.ensures ∙ ap (λ (x : Size). spot_steps x from) (c.size.ensures ∙ c.requires.size) in
    elim c.match-step.branch [
      | in-Some+then-allows w ↦
          let after = w.offer.ensures in
          let to = w.in-Some.to.vertex in
          let new = w.offer.new.row in
          let step = spot_step s c.args.from here c.spot_steps.result w.in-Some.to w.in-Some.by c.requires.from table
          c.loop-step-test.true w.in-Some.is in
          let allowed : IsAllowed pieces w.in-Some.by = w.if-allows.ensures.0 refl in
          let weight : w.weight.result ≡ allowed.0 = w.weight.ensures.value allowed.0 allowed.1 in
          let taken : TakesOffer old new to.0 (reached + allowed.0) =
          subst (λ k. TakesOffer old new to.0 (reached + k)) weight after.taken in
          rw w.row-is (record {
            search = after.search;
            goes_on = Advances-trans s pieces c.args.row.now old new before.goes_on
                (offered_goes_on s pieces old new from to.0 reached allowed.0 w.in-Some.by taken before.from
                (omega (arith, c.requires.number, c.number-reached.ensures.number)) allowed.1 step.connects);
            from = offered_from old new from to.0 reached allowed.0 taken before.from;
            offered = offered_more s pieces rest limit (number_in old)
                (number_in new) from reached here to w.in-Some.by before.offered taken.falls step.step
                (λ k weighs. subst (λ (n : ℕ). IsAnswered (number_in new) rest limit to.0 (reached + n))
                (w.weight.ensures.value k weighs) after.answered);
          })
      | in-Some+else-allows w ↦
          let step = spot_step s c.args.from here c.spot_steps.result w.in-Some.to w.in-Some.by c.requires.from table
          c.loop-step-test.true w.in-Some.is in
          rw w.row-is (record {
            search = before.search;
            goes_on = before.goes_on;
            from = before.from;
            offered = offered_more s pieces rest limit (number_in old)
                (number_in old) from reached here w.in-Some.to.vertex w.in-Some.by before.offered (λ v. omega arith) step.step
                (λ k weighs. let yes : IsTrue false = w.if-allows.ensures.1 (k, weighs) in cc);
          })
      | in_default w ↦
          rw w.row-is (record {
            search = before.search;
            goes_on = before.goes_on;
            from = before.from;
            offered = offered_past s pieces rest limit (number_in old) from reached here before.offered
                (no_step s from here c.spot_steps.result table w.in_default.is);
          })
    ]

pub returns-clause-relaxed : goal.returns-clause-relaxed
returns-clause-relaxed g c =
    let s = g.W.Weights.size c.args.weights.now in
    let pieces = g.W.Weights.pieces c.args.weights.now in
    let rest = g.B.Bound.rest c.args.bound.now in
    let num = number_in c.loop-step.row in
    let all : c.loop-step.step-index ≡ 6 = omega arith in
    offered_all s pieces rest c.args.limit num c.args.from.vertex.0 c.number-reached.result c.loop-step.invariant.from
    (subst (OfferedBelow s pieces rest c.args.limit num c.args.from.vertex.0 c.number-reached.result) all
    c.loop-step.invariant.offered)
