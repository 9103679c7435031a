use Rattle.std.proofs.Common.{ap, sym, subst, ◌∙◌, arith}
use Rattle.grid_graph.specs.Grids.{Allows}
use Rattle.edge_prices.specs.Weights.{piece_weight}
use Rattle.edge_prices.proofs.GroundPieces.{allowed_number, pieces_with-Weighs}
use Rattle.edge_prices.proofs.weighing.WeighingWeights.weight.Goals as goal

pub returns-in-Edge-clause-value : goal.returns-in-Edge-clause-value
returns-in-Edge-clause-value c n weighs =
    let net = c.args.self.now.net in
    let f = piece_weight net.grid.now net.width net.prices.now in
    let facts = (pieces_with-Weighs net.grid.now net.ground f c.args.p n).0 weighs in
    let number = allowed_number net.grid.now net.ground c.in-Edge.e (subst (Allows net.grid.now net.ground) c.in-Edge.is facts.0) in
    c.edge_weight.ensures.value number ∙ ap f (sym c.in-Edge.is) ∙ sym facts.1

pub returns-in-Via-clause-value : goal.returns-in-Via-clause-value
returns-in-Via-clause-value c n weighs =
    let net = c.args.self.now.net in
    let f = piece_weight net.grid.now net.width net.prices.now in
    let facts = (pieces_with-Weighs net.grid.now net.ground f c.args.p n).0 weighs in
    omega (arith, c.open_weight.ensures.value, facts.1 ∙ ap f c.in-Via.is)
