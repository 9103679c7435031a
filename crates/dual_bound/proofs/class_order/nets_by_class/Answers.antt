use Rattle.std.proofs.Common.{◌+◌, All, sym, subst, arith}
use Rattle.std.proofs.lemmas.List.Elements.{All-push}
use Rattle.std.proofs.lemmas.List.Sorted.{All-permutation}
use Rattle.dual_bound.specs.ClassOrders.{IsPlaceOf, HasEachPlace}
use Rattle.dual_bound.proofs.ClassOrders.{placed_more, placed_anew}
use Rattle.dual_bound.proofs.class_order.nets_by_class.Goals as goal

pub loop-place-preserved : goal.loop-place-preserved
loop-place-preserved c =
    let from = c.args.from in
    let to = c.args.to in
    let k = c.loop-place.place in
    let nets = c.loop-place.nets.items in
    let net = c.classed.result in
    let before = c.loop-place.invariant in
    record {
      order = omega (arith, before.order);
      inside = subst (All (IsPlaceOf from to)) (sym c.in_ok-push.ensures.items)
          (All-push (IsPlaceOf from to) nets net before.inside (omega (arith, c.classed.ensures, before.order), omega (arith, c.classed.ensures, c.loop-place-test.true)));
      whole = subst (HasEachPlace from (k + 1)) (sym c.in_ok-push.ensures.items) (placed_more from k nets net c.classed.ensures before.whole);
    }

pub returns-clause-inside : goal.returns-clause-inside
returns-clause-inside c =
    All-permutation (IsPlaceOf c.args.from c.args.to) c.loop-place.nets.items c.sort_unstable.new.self.items c.sort_unstable.ensures.permutation c.loop-place.invariant.inside

pub returns-clause-whole : goal.returns-clause-whole
returns-clause-whole c =
    let k = c.loop-place.place in
    let whole : HasEachPlace c.args.from c.args.to c.loop-place.nets.items = λ j low high. c.loop-place.invariant.whole j low (omega (arith, high, c.loop-place-test.false)) in
    placed_anew c.args.from c.args.to c.loop-place.nets.items c.sort_unstable.new.self.items c.sort_unstable.ensures.permutation whole
