use Rattle.grid_base.specs.Walks.{InVertices}
use Rattle.least_weights.proofs.FewVertices.{least_alike}
use Rattle.least_weights.proofs.keeping.kept_least.Goals as goal

pub returns-in-Some-clause-least : goal.returns-in-Some-clause-least
returns-in-Some-clause-least g c =
    let s = g.W.Weights.size c.args.weights.now in
    let pieces = g.W.Weights.pieces c.args.weights.now in
    let same = c.five_of-key.ensures in
    least_alike s pieces (InVertices c.args.tiles.now) (InVertices c.five_of-key.result) c.in-Some.cost (λ v. ((same v).1, (same v).0)) (c.in-Some.ensures s pieces c.requires.kept)

pub returns-in-None-clause-kept : goal.returns-in-None-clause-kept
returns-in-None-clause-kept g c =
    let s = g.W.Weights.size c.args.weights.now in
    let pieces = g.W.Weights.pieces c.args.weights.now in
    c.put.ensures s pieces c.requires.kept
    (least_alike s pieces (InVertices c.five_of-key.result) (InVertices c.args.tiles.now) c.least_by_landmarks-cost.result c.five_of-key.ensures c.least_by_landmarks-cost.ensures.least)
