use Rattle.std.proofs.Common.{sym, subst}
use Rattle.edge_prices.specs.Weights.{IsPriceList}
use Rattle.edge_prices.proofs.PriceVectors.{price_vector-IsPriceList}
use Rattle.edge_prices.proofs.price_vector.prices.Goals as goal

pub returns-clause-list : goal.returns-clause-list
returns-clause-list c =
    let a = c.args in subst (IsPriceList a.grid.now) (sym c.write_prices.ensures) (price_vector-IsPriceList a.grid.now a.loads.now a.scale a.budget)
