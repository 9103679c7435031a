use Rattle.std.proofs.Common.{◌≡◌, ℕ, Some, sym, ◌∙◌, subst, arith}
use Rattle.grid_base.specs.Flood.{IsFlooding}
use Rattle.grid_base.proofs.Floods.{MarksSteps, MarksSteps-more, MarksSteps-none, marks_linked, IsFlooding-done}
use Rattle.grid_base.proofs.Neighbours.{step_read, steps_lead}
use Rattle.grid_base.proofs.flooding.spread.Goals as goal
use Rattle.grid_base.proofs.flooding.spread.Goals.{in-Some+in_ok-visit, in_default}

pub visit-requires-clause-connects : goal.visit-requires-clause-connects
visit-requires-clause-connects g c =
    steps_lead c.args.size c.args.from.0 c.loop-step.step-index (Some (c.in-Some.to, c.in-Some.by)) c.requires.from
    (step_read c.args.size c.args.from.0 c.loop-step.step-index c.steps.result _ c.steps.ensures c.loop-step-test.true c.in-Some.is)

pub loop-step-preserved : goal.loop-step-preserved
loop-step-preserved g c =
    let s = c.args.size in
    let F = g.P.PieceSet.pieces c.args.pieces.now in
    let now = g.M.Marks.mark_of c.loop-step.marks in
    let invariant = c.loop-step.invariant in
    elim c.match-step.branch [
      | in-Some+in_ok-visit w ↦
          let after = w.in_ok-visit.ensures in
          let new = g.M.Marks.mark_of w.visit.new.marks in
          rw (w.marks-is, w.met-is) (record {
            flooding = λ before start n at flooding.
                subst (λ (m : ℕ). IsFlooding s F before new m start w.visit.new.met.items n) invariant.next
                (after.flooding before start n (invariant.listed n at)
                (subst (λ (m : ℕ). IsFlooding s F before now m start c.loop-step.met.items n) (sym invariant.next) (invariant.flooding before start n at flooding)));
            listed = λ n at. after.listed n (invariant.listed n at);
            steps = MarksSteps-more s F now new c.args.from.0 c.loop-step.step-index w.in-Some.to w.in-Some.by after.kept invariant.steps
                (step_read s c.args.from.0 c.loop-step.step-index c.steps.result _ c.steps.ensures c.loop-step-test.true w.in-Some.is)
                after.visited;
            next = after.next ∙ invariant.next;
            limit = after.limit ∙ invariant.limit;
          })
      | in_default w ↦
          rw (w.marks-is, w.met-is) (record {
            flooding = invariant.flooding;
            listed = invariant.listed;
            steps = MarksSteps-none s F now c.args.from.0 c.loop-step.step-index invariant.steps
                (step_read s c.args.from.0 c.loop-step.step-index c.steps.result _ c.steps.ensures c.loop-step-test.true w.in_default.is);
            next = invariant.next;
            limit = invariant.limit;
          })
    ]

pub returns-clause-flooding : goal.returns-clause-flooding
returns-clause-flooding g c before start n at flooding =
    let s = c.args.size in
    let F = g.P.PieceSet.pieces c.args.pieces.now in
    let now = g.M.Marks.mark_of c.loop-step.marks in
    let all : c.loop-step.step-index ≡ 6 = omega arith in
    IsFlooding-done s F before now (g.M.Marks.next_mark c.args.marks.now) start c.loop-step.met.items n c.args.from
    (c.loop-step.invariant.flooding before start n at flooding) (c.loop-step.invariant.listed n at)
    (marks_linked s F now c.args.from.0 (subst (MarksSteps s F now c.args.from.0) all c.loop-step.invariant.steps))
