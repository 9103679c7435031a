use Rattle.std.proofs.Common.{◌≡◌, ◌<◌, ◌*◌, sym, ◌∙◌, ap, subst, arith}
use Rattle.grid_base.specs.declared.piece.Piece.{Piece}
use Rattle.grid_base.specs.Numbers.{vertices}
use Rattle.grid_base.proofs.Pieces.{edge-tells}
use Rattle.grid_graph.specs.Weighed.{Weighs}
use Rattle.steiner_exact.specs.FlatPieces.{edges_with}
use Rattle.steiner_exact.proofs.EdgeLists.{edges_with-listed, edge_below, via_not_listed}
use Rattle.steiner_exact.proofs.flat_weights.FlatWeightsWeights.weight.Goals as goal

pub returns-in-Edge-clause-value : goal.returns-in-Edge-clause-value
returns-in-Edge-clause-value g c n weighs =
    let x = c.args.self.now in
    let over = g.W.FlooredWeights.over x.weights.now in
    let found = edges_with-listed x.size over c.args.p n weighs in
    let number : c.in-Edge.e.0 ≡ found.number = edge-tells c.in-Edge.e.0 found.number (sym c.in-Edge.is ∙ found.is) in
    let below : c.in-Edge.e.0 < 2 * vertices x.size = omega (arith, number, edge_below x.size found.number found.piece) in
    c.edge_weight.ensures.value below ∙ ap over number ∙ sym found.value

pub returns-in-Via-clause-value : goal.returns-in-Via-clause-value
returns-in-Via-clause-value g c n weighs =
    let x = c.args.self.now in
    let over = g.W.FlooredWeights.over x.weights.now in
    absurd (via_not_listed x.size over c.in-Via.field-0 n (subst (λ (p : Piece). Weighs (edges_with x.size over) p n) c.in-Via.is weighs))
