use Rattle.steiner_exact.proofs.EdgeLists.{edges_with-floors}
use Rattle.steiner_exact.proofs.flat_weights.FlatWeightsFlooredWeights.floors.Goals as goal

pub returns-clause-below : goal.returns-clause-below
returns-clause-below g c =
    let x = c.args.self.now in
    edges_with-floors x.size (g.W.Weights.size x.weights.now) (g.W.FlooredWeights.over x.weights.now) c.floors.result x.flat c.floors.ensures.tiles
