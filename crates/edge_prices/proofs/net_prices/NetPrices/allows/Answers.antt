use Rattle.edge_prices.proofs.Layers.{via_allowed}
use Rattle.edge_prices.proofs.net_prices.NetPrices.allows.Goals as goal

pub returns-in-Via : goal.returns-in-Via
returns-in-Via c = let net = c.args.self.now in rw c.in-Via.is (via_allowed net.grid.now net.ground c.in-Via.v net.vias net.known.via_count)
