use Rattle.std.proofs.Common.{◌≡◌, take, arith}
use Rattle.std.proofs.lemmas.Grind.{common_steps}
use Rattle.std.proofs.lemmas.List.Elements.{All-more, All-weaker}
use Rattle.grid_base.specs.declared.vertex.Vertex.{Vertex}
use Rattle.label_search.specs.Rows.{number_in}
use Rattle.label_search.specs.Searches.{IsLow}
use Rattle.label_search.proofs.Relaxing.{FallsFrom-trans}
use Rattle.label_search.proofs.search.settle_each.Goals as goal

pub loop-goal-preserved : goal.loop-goal-preserved
loop-goal-preserved g c =
    let w = c.args.weights.now in
    let s = g.W.Weights.size w in
    let pieces = g.W.Weights.pieces w in
    let old = c.loop-goal.row in
    let new = c.settle.new.row in
    let before = c.loop-goal.invariant in
    let after = c.settle.ensures in
    record {
      search = after.search;
      settled = after.settled;
      fell = FallsFrom-trans s pieces c.args.row.now old new before.fell after.fell;
      low = λ source begins.
          let P : Vertex → Type 0 = λ v. IsLow s pieces source (number_in new) v.0 in
          All-more P c.args.goals.now c.loop-goal.goal-index (record { 0 = 0 }) c.loop-goal-test.true
          (All-weaker (λ (v : Vertex). IsLow s pieces source (number_in old) v.0) P
          (λ v is set is_set walk. omega (arith, is set is_set walk, after.fell.falls v.0))
          (take c.loop-goal.goal-index c.args.goals.now) (before.low source begins))
          (after.low source (omega (arith, before.fell.falls source, begins)));
    }

pub returns-clause-low : goal.returns-clause-low
returns-clause-low g c = λ source begins.
    let goals = c.args.goals.now in
    let all : take c.loop-goal.goal-index goals ≡ goals = grind (arith, common_steps) in
    rw all at (c.loop-goal.invariant.low source begins)
