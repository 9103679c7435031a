use Rattle.std.proofs.Common.{ℕ, List, false, None, get_or, subst, arith}
use Rattle.dual_bound.specs.DesignBounds.{IsAtMostEachRoute}
use Rattle.dual_bound.proofs.NetsOf.{AllZip-length}
use Rattle.overflow_bounds.specs.ClassGraphs.{IsGraphAt}
use Rattle.overflow_bounds.proofs.NetLows.{written_low}
use Rattle.overflow_bounds.proofs.lows.write_lows.Goals as goal

pub bounds-lows-place : goal.bounds-lows-place
bounds-lows-place c =
    let d = c.args.design.now in
    let its = c.requires.places c.loop-net.net-index (record { with_choked = false; width = 0; band = 0; col = 0; place = 0 }) c.loop-net-test.true in
    omega (arith, its.1, AllZip-length (IsAtMostEachRoute d.grid c.args.reused.now.class.prices.now None) d.nets c.loop-net.lows c.loop-net.invariant.low)

pub loop-net-preserved : goal.loop-net-preserved
loop-net-preserved c =
    let d = c.args.design.now in
    let prices = c.args.reused.now.class.prices.now in
    let net = get_or c.args.nets.now c.loop-net.net-index (record { with_choked = false; width = 0; band = 0; col = 0; place = 0 }) in
    let before = c.loop-net.invariant in
    let low = c.in_ok-lows.field-0 in
    record {
      class = subst (λ (ps : List ℕ). IsGraphAt d.grid ps c.low_of_net.new.reused.class) before.class.prices_of c.in_ok-lows.ensures.class;
      low = written_low (IsAtMostEachRoute d.grid prices None) d.nets c.loop-net.lows net.place low before.low
          (λ n at. subst (λ (ps : List ℕ). IsAtMostEachRoute d.grid ps None n low) before.class.prices_of (c.in_ok-lows.ensures.low n at));
    }
