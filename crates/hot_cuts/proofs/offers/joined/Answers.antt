use Rattle.std.proofs.Common.{ap}
use Rattle.hot_cuts.specs.Standings.{Joined, joined_in, none_joined, with_standing}
use Rattle.hot_cuts.proofs.Steps.{fold_end, fold_step}
use Rattle.hot_cuts.proofs.offers.joined.Goals as goal

pub returns : goal.returns
returns c =
    let whole = fold_end (with_standing c.args.offers.now) (joined_in c.loop-standing.marks.items c.loop-standing.all) (none_joined c.args.count)
    c.deref-standing-items.result.now c.in_ok-order.order.items c.loop-standing.standing-index c.loop-standing-test.false c.loop-standing.invariant
    c.deref-standing-items.ensures.value in
    record {
      order = c.in_ok-order.order.items;
      standings = c.in_ok-order.ensures;
      prices = ap (λ (j : Joined). j.prices) whole;
      estimate = ap (λ (j : Joined). j.estimate) whole;
    }

pub loop-standing-preserved : goal.loop-standing-preserved
loop-standing-preserved c =
    fold_step (with_standing c.args.offers.now) (joined_in c.loop-standing.marks.items c.loop-standing.all)
    (joined_in c.add_if_apart.new.marks.items c.add_if_apart.new.all) (none_joined c.args.count) c.deref-standing-items.result.now
    c.loop-standing.standing-index _ c.loop-standing-test.true c.loop-standing.invariant c.in_ok-add_if_apart.ensures
