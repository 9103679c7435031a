use Rattle.std.proofs.Common.{◌≡◌, ◌*◌, ap, sym, ◌∙◌, arith}
use Rattle.dual_bound.specs.Prices.{capacity_cost}
use Rattle.dual_bound.proofs.Bounding.{net_bounds_bound}
use Rattle.dual_bound.proofs.design_bound.bound.Goals as goal

pub returns-clause-bounds : goal.returns-clause-bounds
returns-clause-bounds g c =
    let d = c.args.design.now in
    let prices = c.args.prices.now in
    let f = c.of.result in
    let cost : c.capacity_cost-cost.result ≡ capacity_cost d.grid prices c.args.budget = c.capacity_cost-cost.ensures.value in
    let ratio : f.num * capacity_cost d.grid prices c.args.budget ≡ c.in_ok-total.total * f.den = ap (λ x. f.num * x) (sym (c.from.ensures ∙ cost)) ∙ c.of.ensures in
    net_bounds_bound d prices c.args.budget c.in_ok-total.total f.num f.den c.requires.prices (omega (arith, cost, c.if-cost-eq0.false)) c.in_ok-total.ensures.0
    f.lowest.positive (omega (arith, ratio))
