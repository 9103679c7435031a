use Rattle.std.proofs.Common.{arith}
use Rattle.edge_prices.proofs.PriceTable.{PRICES-price}
use Rattle.edge_prices.proofs.price.price_at.Goals as goal

pub returns : goal.returns
returns c = PRICES-price c.args.i (omega arith)
