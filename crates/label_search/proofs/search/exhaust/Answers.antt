use Rattle.label_search.proofs.Relaxing.{FallsFrom-trans}
use Rattle.label_search.proofs.search.exhaust.Goals as goal

pub loop-row-preserved : goal.loop-row-preserved
loop-row-preserved g c =
    let after = c.advance.ensures in
    record {
      search = after.search;
      settled = after.settled;
      fell = FallsFrom-trans (g.W.Weights.size c.args.weights.now)
          (g.W.Weights.pieces c.args.weights.now) c.args.row.now c.loop-row.row c.advance.new.row c.loop-row.invariant.fell
          after.fell;
    }

pub returns-clause-idle : goal.returns-clause-idle
returns-clause-idle g c = c.is_waiting.ensures.none c.loop-row-test.false

pub returns-clause-relaxed : goal.returns-clause-relaxed
returns-clause-relaxed g c = λ v. c.loop-row.invariant.settled v
    (λ waits. c.is_waiting.ensures.none c.loop-row-test.false v waits.0 waits.1)
