use Rattle.std.proofs.Common.{◌≡◌, ℕ, ◌*◌, ◌<◌, ◌≤◌, List, None, ap, sym, subst, ◌∙◌, ⊎_elim, arith}
use Rattle.std.proofs.lemmas.Bool.{cases_lt}
use Rattle.grid_graph.specs.declared.grid.Grid.{Grid}
use Rattle.fractions.specs.Fractions.{IsRatio}
use Rattle.dual_bound.specs.LeastOverflow.{IsGreatestPrice, least_overflow}
use Rattle.dual_bound.specs.Prices.{capacity_cost}
use Rattle.dual_bound.proofs.Bounding.{net_bounds_bound}
use Rattle.dual_bound.proofs.FreeBudgets.{bound-free, bounds-free, no_bound-free}
use Rattle.dual_bound.proofs.GreatestPrices.{no_cost-no_prices, no_prices-no_cost}
use Rattle.dual_bound.proofs.NetLimits.{sum-by_price}
use Rattle.dual_bound.proofs.Overfull.{overflows}
use Rattle.dual_bound.proofs.shown.what_prices_show.Goals as goal

-- where the capacities cost something the greatest price does
some_price : (g : Grid) (prices : List ℕ) (price : ℕ) → 0 < capacity_cost g prices None → IsGreatestPrice prices price → 0 < price
some_price g prices price some greatest = ⊎_elim
    (λ (positive : 0 < price). positive)
    (λ (none : price ≤ 0). absurd (omega (arith, some, no_prices-no_cost g prices (λ r. omega (arith, none, greatest.most r)))))
    (cases_lt 0 price)

pub least_overflow-requires-clause-price : goal.least_overflow-requires-clause-price
least_overflow-requires-clause-price g c = some_price c.args.design.now.grid c.args.prices.now c.greatest_price-price.result
    (omega (arith, c.capacity_cost-cost.ensures.value, c.if-cost-eq0.false)) c.greatest_price-price.ensures

pub least_overflow-requires-clause-limit : goal.least_overflow-requires-clause-limit
least_overflow-requires-clause-limit g c = sum-by_price c.args.design.now c.args.prices.now c.greatest_price-price.result c.in_ok-total.total c.greatest_price-price.ensures.most c.in_ok-total.ensures.0

pub returns-then-cost-eq0-clause-bound : goal.returns-then-cost-eq0-clause-bound
returns-then-cost-eq0-clause-bound g c = λ most. no_bound-free c.args.design.now c.args.prices.now most (sym c.capacity_cost-cost.ensures.value ∙ c.if-cost-eq0.true)

pub returns-then-cost-eq0-clause-overflow : goal.returns-then-cost-eq0-clause-overflow
returns-then-cost-eq0-clause-overflow g c = record {
  price = 0;
  greatest = no_cost-no_prices c.args.design.now.grid c.args.prices.now c.requires.prices (sym c.capacity_cost-cost.ensures.value ∙ c.if-cost-eq0.true);
  none = λ is. is;
  some = λ positive. absurd (omega (arith, positive));
}

pub returns-clause-bound : goal.returns-clause-bound
returns-clause-bound g c = λ most.
    let d = c.args.design.now in
    let cost : c.from.result ≡ capacity_cost d.grid c.args.prices.now None = c.from.ensures ∙ c.capacity_cost-cost.ensures.value in
    bound-free d c.args.prices.now most c.in_ok-total.total c.of.result (omega (arith, c.capacity_cost-cost.ensures.value, c.if-cost-eq0.false)) c.in_ok-total.ensures.0
    (subst (λ (den : ℕ). IsRatio c.in_ok-total.total den c.of.result) cost c.of.ensures)

pub returns-clause-bounds : goal.returns-clause-bounds
returns-clause-bounds g c = λ most.
    let d = c.args.design.now in
    let prices = c.args.prices.now in
    let f = c.of.result in
    let cost = c.capacity_cost-cost.ensures.value in
    let ratio : f.num * capacity_cost d.grid prices None ≡ c.in_ok-total.total * f.den = ap (λ x. f.num * x) (sym (c.from.ensures ∙ cost)) ∙ c.of.ensures in
    bounds-free d most f.num f.den (net_bounds_bound d prices None c.in_ok-total.total f.num f.den (record { edges = c.requires.prices; wirelength = λ b is. cc })
    (omega (arith, cost, c.if-cost-eq0.false)) c.in_ok-total.ensures.0 f.lowest.positive (omega (arith, ratio)))

pub returns-clause-overflow : goal.returns-clause-overflow
returns-clause-overflow g c =
    let d = c.args.design.now in
    let price = c.greatest_price-price.result in
    let positive = some_price d.grid c.args.prices.now price (omega (arith, c.capacity_cost-cost.ensures.value, c.if-cost-eq0.false)) c.greatest_price-price.ensures in
    record {
      price = price;
      greatest = c.greatest_price-price.ensures;
      none = λ is. absurd (omega (arith, is, positive));
      some = λ known. (
        c.in_ok-total.total,
        c.in_ok-total.ensures.0,
        c.least_overflow.ensures ∙ ap (λ (cost : ℕ). least_overflow c.in_ok-total.total cost price) c.capacity_cost-cost.ensures.value,
      );
    }

pub returns-clause-unavoidable : goal.returns-clause-unavoidable
returns-clause-unavoidable g c = λ trees routing.
    let d = c.args.design.now in
    let price = c.greatest_price-price.result in
    let cost = c.capacity_cost-cost.ensures.value in
    let positive = some_price d.grid c.args.prices.now price (omega (arith, cost, c.if-cost-eq0.false)) c.greatest_price-price.ensures in
    let shown = overflows d c.args.prices.now price c.in_ok-total.total trees c.requires.prices (record { positive = positive; most = c.greatest_price-price.ensures.most }) c.in_ok-total.ensures.0 routing in
    omega (arith, shown, c.least_overflow.ensures ∙ ap (λ (k : ℕ). least_overflow c.in_ok-total.total k price) cost)
