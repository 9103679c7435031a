use Rattle.edge_prices.specs.Weights.{piece_weight}
use Rattle.edge_prices.proofs.GroundPieces.{pieces_with-IsAllowed}
use Rattle.edge_prices.proofs.weighing.WeighingWeights.allows.Goals as goal

pub returns : goal.returns
returns c =
    let net = c.args.self.now.net in
    let law = pieces_with-IsAllowed net.grid.now net.ground (piece_weight net.grid.now net.width net.prices.now) c.args.p in
    ((λ test. law.1 (c.allows.ensures.0 test)), λ allowed. c.allows.ensures.1 (law.0 allowed))
