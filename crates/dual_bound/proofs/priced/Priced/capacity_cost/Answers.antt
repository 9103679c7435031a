use Rattle.std.proofs.Common.{◌≡◌, ℕ, suc, ◌+◌, ◌*◌, slice_index, ap, sym, ◌∙◌, arith, zero-add, unwrap_or}
use Rattle.std.specs.List.{sum_by, range_with_len}
use Rattle.grid_base.specs.Numbers.{vertices}
use Rattle.grid_graph.specs.Grids.{capacity, edge_numbers}
use Rattle.edge_prices.specs.Budgets.{most_of, price_per_piece}
use Rattle.dual_bound.proofs.CapacityCosts.{sum_by-range-more, capacity_cost-parts}
use Rattle.dual_bound.proofs.priced.Priced.capacity_cost.Goals as goal

pub loop-e-preserved : goal.loop-e-preserved
loop-e-preserved c =
    let s = c.args.self.now in
    let e = c.loop-e.e in
    let f : ℕ → ℕ = λ r. slice_index s.prices.now r * capacity s.design.now.grid r in
    let wire : ℕ = price_per_piece s.budget * unwrap_or (most_of s.budget) 0 in
    let before : c.loop-e.total ≡ wire + sum_by f (range_with_len 0 e) = c.loop-e.invariant.total in
    let new : c.edge_cost-total.result ≡ f e = c.edge_cost-total.ensures.value in
    let one_more : suc e ≡ e + 1 = omega arith in
    let after : c.loop-e.total + c.edge_cost-total.result ≡ wire + sum_by f (range_with_len 0 (e + 1)) =
    omega (arith, before, new, sum_by-range-more f 0 e, ap f (zero-add e), ap (λ n. sum_by f (range_with_len 0 n)) one_more) in
    record {
      total = after;
      small = omega (arith, c.loop-e.invariant.small, c.edge_cost-total.ensures.limit);
    }

pub returns-clause-value : goal.returns-clause-value
returns-clause-value c =
    let s = c.args.self.now in
    let g = s.design.now.grid in
    let f : ℕ → ℕ = λ r. slice_index s.prices.now r * capacity g r in
    let whole : c.loop-e.e ≡ edge_numbers g = omega (arith, ap vertices c.size.ensures) in
    c.loop-e.invariant.total
    ∙ ap (λ n. price_per_piece s.budget * unwrap_or (most_of s.budget) 0 + sum_by f (range_with_len 0 n)) whole
    ∙ sym (capacity_cost-parts g s.prices.now s.budget)
