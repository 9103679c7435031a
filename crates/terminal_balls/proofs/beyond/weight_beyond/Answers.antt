use Rattle.std.proofs.Common.{◌≡◌, ◌-◌, ◌*◌, ◌%◌, sym, ◌∙◌, ap, subst, arith}
use Rattle.grid_base.specs.declared.piece.Piece.{Piece}
use Rattle.grid_base.specs.declared.piece.Piece.TheVariants.{Edge}
use Rattle.grid_base.specs.declared.size.Size.{Size}
use Rattle.grid_graph.specs.Flat.{tiles, tile_edge_of}
use Rattle.grid_graph.specs.Weighed.{Weighs, IsAllowed}
use Rattle.terminal_balls.specs.Balls.{beyond}
use Rattle.terminal_balls.proofs.beyond.weight_beyond.Goals as goal
use Rattle.terminal_balls.proofs.beyond.weight_beyond.Goals.{After-least_over}

tile : (g : _) (c : After-least_over g)
    → c.least_over.result ≡ g.W.FlooredWeights.over c.args.weights.now (tile_edge_of (g.W.Weights.size c.args.weights.now) c.in-Edge.edge.0)
tile g c =
    let s = g.W.Weights.size c.args.weights.now in
    let over = g.W.FlooredWeights.over c.args.weights.now in
    let size : tiles c.args.size ≡ tiles s = ap (λ (x : Size). tiles x) c.requires.size in
    let count : c.cols.result * c.rows.result ≡ tiles s = (let w = c.cols.ensures in let h = c.rows.ensures in cc) in
    c.least_over.ensures ∙ ap (λ n. over (c.in-Edge.edge.0 % (2 * n))) count

pub overflow_sub-result : goal.overflow_sub-result
overflow_sub-result g c =
    let pieces = g.W.Weights.pieces c.args.weights.now in
    let allowed : IsAllowed pieces c.args.by = c.requires.allowed in
    let weighs : Weighs pieces (Edge c.in-Edge.edge) allowed.0 = subst (λ (p : Piece). Weighs pieces p allowed.0) c.in-Edge.is allowed.1 in
    omega (
      arith,
      tile g c,
      (g.met.W.FlooredWeights.under c.args.weights.now).below c.in-Edge.edge allowed.0 weighs,
      c.weight-weight.ensures.value allowed.0 allowed.1,
    )

pub returns-in-Edge-clause-value : goal.returns-in-Edge-clause-value
returns-in-Edge-clause-value g c = λ k weighs.
    let s = g.W.Weights.size c.args.weights.now in
    let over = g.W.FlooredWeights.over c.args.weights.now in
    subst (λ (p : Piece). c.weight-weight.result - c.least_over.result ≡ beyond s over p k) (sym c.in-Edge.is)
    (omega (arith, tile g c, c.weight-weight.ensures.value k weighs))

pub returns-in-Via-clause-value : goal.returns-in-Via-clause-value
returns-in-Via-clause-value g c = λ k weighs.
    let s = g.W.Weights.size c.args.weights.now in
    let over = g.W.FlooredWeights.over c.args.weights.now in
    subst (λ (p : Piece). c.weight-weight.result ≡ beyond s over p k) (sym c.in-Via.is) (c.weight-weight.ensures.value k weighs)
