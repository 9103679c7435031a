use Rattle.std.proofs.Common.{Option, subst, arith}
use Rattle.std.specs.Option.{IfSome}
use Rattle.grid_base.specs.declared.piece.Piece.{Piece}
use Rattle.grid_base.specs.declared.spot.Spot.{Spot}
use Rattle.label_search.specs.Paths.{IsStepBack}
use Rattle.shortest_paths.specs.LabelWords.{labels_number}
use Rattle.steiner_span.proofs.way_back.way_back.Goals as goal

pub loop-here-smaller : goal.loop-here-smaller
loop-here-smaller g c =
    let s = g.W.Weights.size c.args.weights.now in
    let pieces = g.W.Weights.pieces c.args.weights.now in
    let num = labels_number c.args.labels.now in
    let back : IsStepBack s pieces num c.loop-here.here.vertex.0 c.unwrap-by.result.0.vertex.0 c.unwrap-by.result.1 =
    subst (λ (o : Option (Spot × Piece)). IfSome o (λ x. IsStepBack s pieces num c.loop-here.here.vertex.0 x.0.vertex.0 x.1)) c.unwrap-by.ensures c.step_back.ensures.step in
    omega (arith, back.less, c.requires.positive c.unwrap-by.result.1 back.weight back.step.weighs)
