use Rattle.std.proofs.Common.{arith}
use Rattle.label_search.specs.Founds.{index_in}
use Rattle.label_search.specs.Rows.{number_in, Waits}
use Rattle.label_search.proofs.LeastNumbers.{RisesSlowly-as, known_slow, least_of_all}
use Rattle.label_search.proofs.Relaxing.{FallsFrom-trans}
use Rattle.label_search.proofs.search.settle.Goals as goal

pub loop-goal-preserved : goal.loop-goal-preserved
loop-goal-preserved g c =
    let after = c.advance.ensures in
    record {
      search = after.search;
      settled = after.settled;
      fell = FallsFrom-trans (g.W.Weights.size c.args.weights.now)
          (g.W.Weights.pieces c.args.weights.now) c.args.row.now c.loop-goal.row c.advance.new.row c.loop-goal.invariant.fell
          after.fell;
    }

pub returns-clause-low : goal.returns-clause-low
returns-clause-low g c = λ source begins.
    let s = g.W.Weights.size c.args.weights.now in
    let pieces = g.W.Weights.pieces c.args.weights.now in
    let bound = c.args.bound.now in
    let rest = g.B.Bound.rest bound in
    let row = c.loop-goal.row in
    let slow = RisesSlowly-as s (g.B.Bound.size bound) pieces
    (g.B.Bound.pieces bound) rest c.requires.bound_size c.requires.bound (g.met.B.Bound.slow bound) in
    least_of_all s pieces (number_in row) rest c.args.limit (Waits row) source c.args.goal.0 slow c.loop-goal.invariant.settled
    (λ v waits. omega (
      arith,
      c.is_open.ensures.closed c.loop-goal-test.false v waits.0 waits.1,
      c.loop-goal.invariant.search.keys v waits.0 waits.1,
      c.rest-rest.ensures.value,
    ))
    (omega (
      arith,
      row.parts.limits (index_in row.found c.args.goal.0),
      c.rest-rest.ensures.value,
      c.rest-rest.ensures.limit,
      c.requires.limit,
    ))
    (omega (arith, begins, c.loop-goal.invariant.fell.falls source))

pub returns-clause-known : goal.returns-clause-known
returns-clause-known g c = λ x less inside.
    let s = g.W.Weights.size c.args.weights.now in
    let pieces = g.W.Weights.pieces c.args.weights.now in
    let bound = c.args.bound.now in
    let rest = g.B.Bound.rest bound in
    let row = c.loop-goal.row in
    let slow = RisesSlowly-as s (g.B.Bound.size bound) pieces
    (g.B.Bound.pieces bound) rest c.requires.bound_size c.requires.bound (g.met.B.Bound.slow bound) in
    known_slow s pieces (number_in row) rest c.args.limit (Waits row) x slow c.loop-goal.invariant.settled
    (λ v waits. omega (
      arith,
      less,
      c.is_open.ensures.closed c.loop-goal-test.false v waits.0 waits.1,
      c.loop-goal.invariant.search.keys v waits.0 waits.1,
    ))
    (omega (arith, inside))
