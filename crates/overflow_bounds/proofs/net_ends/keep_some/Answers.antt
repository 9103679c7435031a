use Rattle.std.proofs.Common.{ℕ, List, ◌-◌, ◌<◌, length, length-set, subst, ◌∙◌, arith}
use Rattle.std.specs.Prelude.{Contains}
use Rattle.overflow_bounds.proofs.EvenSteps.{set_within, step-within, take_within}
use Rattle.overflow_bounds.proofs.net_ends.keep_some.Goals as goal

pub loop-place-preserved : goal.loop-place-preserved
loop-place-preserved c =
    let before = c.loop-place.invariant in
    let ends = c.loop-place.ends.items in
    let place = c.loop-place.place in
    let last = c.len-last.result - 1 in
    let inside : c.at_step.result < length ends = omega (arith, c.at_step.ensures, step-within place last c.loop-place-test.true, before.long) in
    record {
      long = length-set ends place c.index.result.now ∙ before.long;
      many = before.many;
      within = λ n at. before.within n (set_within ends place c.at_step.result c.index.result.now n inside c.index.ensures at);
    }

pub returns-clause-within : goal.returns-clause-within
returns-clause-within c n at =
    c.loop-place.invariant.within n (take_within 8 c.loop-place.ends.items n (subst (λ (xs : List ℕ). Contains xs n) c.truncate.ensures.items at))
