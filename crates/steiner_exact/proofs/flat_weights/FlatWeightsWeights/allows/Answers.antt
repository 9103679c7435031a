use Rattle.std.proofs.Common.{sym, subst}
use Rattle.grid_base.specs.declared.piece.Piece.{Piece}
use Rattle.grid_base.specs.Numbers.{IsPiece}
use Rattle.grid_graph.specs.Weighed.{IsAllowed, Weighs}
use Rattle.steiner_exact.specs.FlatPieces.{edges_with}
use Rattle.steiner_exact.proofs.EdgeLists.{edges_with-lists, edges_with-inside, via_not_listed}
use Rattle.steiner_exact.proofs.flat_weights.FlatWeightsWeights.allows.Goals as goal

pub returns-in-Edge : goal.returns-in-Edge
returns-in-Edge g c =
    let x = c.args.self.now in
    let over = g.W.FlooredWeights.over x.weights.now in
    let e = c.in-Edge.e in (
      (λ is. subst (IsAllowed (edges_with x.size over)) (sym c.in-Edge.is) (over e.0, edges_with-lists x.size over e.0 (c.has_edge.ensures.0 is))),
      λ allowed. c.has_edge.ensures.1 (subst (IsPiece x.size) c.in-Edge.is (edges_with-inside x.size over c.args.p allowed)),
    )

pub returns-in-Via : goal.returns-in-Via
returns-in-Via g c =
    let x = c.args.self.now in
    let over = g.W.FlooredWeights.over x.weights.now in (
      (λ none. absurd (cc none)),
      λ allowed. absurd (via_not_listed x.size over c.in-Via.field-0 allowed.0 (subst (λ (p : Piece). Weighs (edges_with x.size over) p allowed.0) c.in-Via.is allowed.1)),
    )
