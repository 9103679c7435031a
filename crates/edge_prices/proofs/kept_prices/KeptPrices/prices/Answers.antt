use Rattle.std.proofs.Common.{sym, subst, ◌∙◌}
use Rattle.edge_prices.specs.Weights.{IsPriceList}
use Rattle.edge_prices.proofs.PriceVectors.{price_vector-IsPriceList}
use Rattle.edge_prices.proofs.kept_prices.KeptPrices.prices.Goals as goal

pub returns-clause-list : goal.returns-clause-list
returns-clause-list c =
    let s = c.args.self.now in
    let r = s.resources in
    subst (IsPriceList r.grid.now) (sym (c.as_slice.ensures.value ∙ (s.kept.fresh c.requires).vector)) (price_vector-IsPriceList r.grid.now s.loads.items r.scale r.budget)
