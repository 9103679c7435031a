use Rattle.std.proofs.Common.{ℕ, ◌*◌, take, ◌∙◌, ap}
use Rattle.grid_base.specs.Numbers.{vertices}
use Rattle.grid_graph.specs.Grids.{edge_numbers}
use Rattle.edge_prices.specs.Budgets.{most_of}
use Rattle.bound_climb.specs.Climbs.{with_price_of}
use Rattle.bound_climb.proofs.ClimbOffers.{most_kept, offered}
use Rattle.bound_climb.proofs.climbing.offer_turn.Goals as goal

pub returns : goal.returns
returns g c =
    let s = c.args.sight.now in
    let d = s.design.now in
    let vector = c.prices-prices.ensures.vector in
    let edges = c.vertices.ensures ∙ ap vertices c.size.ensures in
    record {
      offered = offered s c.args.budget c.args.turn c.args.climbed.now c.offer.new.self (take (2 * c.vertices.result) c.prices-prices.result.now) c.budget_at-budget.result c.in_ok-found.found
          (ap (λ (n : ℕ). take (2 * n) c.prices-prices.result.now) edges ∙ ap (λ v. take (edge_numbers d.grid) v) vector)
          (c.budget_at-budget.ensures.value ∙ ap (λ v. with_price_of d.grid v c.args.budget) vector)
          (ap most_of c.budget_at-budget.ensures.value ∙ most_kept d.grid c.prices-prices.result.now c.args.budget)
          c.in_ok-found.ensures.bound c.in_ok-found.ensures.bounds c.offer.ensures.taken c.offer.ensures.left c.offer.ensures.steps;
    }
