use Rattle.std.proofs.Common.{◌≡◌, ℕ, suc, ◌+◌, ◌*◌, slice_index, ap, ◌∙◌, arith, zero-add}
use Rattle.std.specs.List.{sum_by, range_with_len}
use Rattle.overflow_bounds.specs.Units.{unit_at}
use Rattle.dual_bound.specs.WholeWires.{whole_capacity}
use Rattle.dual_bound.proofs.CapacityCosts.{sum_by-range-more}
use Rattle.overflow_bounds.proofs.wires.Wires.whole_cost.Goals as goal

pub loop-e-preserved : goal.loop-e-preserved
loop-e-preserved c =
    let s = c.args.self.now in
    let e = c.loop-e.e in
    let f : ℕ → ℕ = λ r. slice_index s.prices.now r * whole_capacity s.grid.now (unit_at s.grid.now s.prices.now s.units.now c.args.most) r in
    let before : c.loop-e.total ≡ sum_by f (range_with_len 0 e) = c.loop-e.invariant.total in
    let new : c.from-total.result ≡ f e = c.from-total.ensures ∙ c.cost_at.ensures.value in
    let one_more : suc e ≡ e + 1 = omega arith in
    let after : c.loop-e.total + c.from-total.result ≡ sum_by f (range_with_len 0 (e + 1)) =
    omega (arith, before, new, sum_by-range-more f 0 e, ap f (zero-add e), ap (λ n. sum_by f (range_with_len 0 n)) one_more) in
    record {
      total = after;
      small = omega (arith, c.loop-e.invariant.small, c.cost_at.ensures.limit, c.from-total.ensures);
    }
