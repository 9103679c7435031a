use Rattle.std.proofs.Common.{◌≡◌, ◌*◌, ◌↔◌, Bool, true, List, length, get_or, sym, ap, subst, ◌∙◌, arith}
use Rattle.std.proofs.lemmas.Bool.{ltb-true}
use Rattle.grid_base.specs.declared.piece.Piece.TheVariants.{Edge}
use Rattle.grid_base.specs.Numbers.{vertices, IsPiece}
use Rattle.steiner_exact.proofs.EdgeLists.{edge_below, flag-edge, flags-length}
use Rattle.steiner_exact.proofs.flat_weights.FlatWeights.has_edge.Goals as goal

pub returns-then-e-self : goal.returns-then-e-self
returns-then-e-self g c =
    let x = c.args.self.now in
    let e = c.args.e.0 in
    let long : length x.edges.now ≡ 2 * vertices x.size = ap (λ (flags : List Bool). length flags) x.listed ∙ flags-length x.size in
    subst (λ (flags : List Bool). (get_or flags e _ ≡ true) ↔ IsPiece x.size (Edge (record { 0 = e }))) (sym x.listed) (flag-edge x.size e _ (omega (arith, long, c.if-e-self.true)))

pub returns-else-e-self : goal.returns-else-e-self
returns-else-e-self g c =
    let x = c.args.self.now in
    let e = c.args.e.0 in
    let long : length x.edges.now ≡ 2 * vertices x.size = ap (λ (flags : List Bool). length flags) x.listed ∙ flags-length x.size in (
      (λ within. absurd (omega (arith, ltb-true _ _ within, c.if-e-self.false))),
      λ piece. absurd (omega (arith, long, edge_below x.size e piece, c.if-e-self.false)),
    )
