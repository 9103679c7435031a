use Rattle.edge_prices.specs.Weights.{piece_weight}
use Rattle.edge_prices.proofs.GroundPieces.{AreGroundPieces-same}
use Rattle.edge_prices.proofs.weighing.Weighing.new.Goals as goal

pub returns-clause-pieces : goal.returns-clause-pieces
returns-clause-pieces c =
    let net = c.new-net.result in
    let made = c.new-net.ensures in
    AreGroundPieces-same piece_weight net.grid.now _ net.ground _ net.width _ net.prices.now _ _ made.grid made.ground made.width made.prices c.at.ensures.pieces
