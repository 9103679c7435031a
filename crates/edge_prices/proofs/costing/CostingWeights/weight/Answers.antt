use Rattle.std.proofs.Common.{ℕ, ◌≡◌, Bool, true, false, cond, refl, ap, sym, subst, ◌∙◌}
use Rattle.std.specs.Prelude.{Some, None, unwrap_or}
use Rattle.grid_graph.specs.Grids.{Allows}
use Rattle.edge_prices.specs.Weights.{cost, is_open, edge_cost}
use Rattle.edge_prices.proofs.GroundPieces.{allowed_number, pieces_with-Weighs}
use Rattle.edge_prices.proofs.costing.CostingWeights.weight.Goals as goal

some_or_zero : (b : Bool) (n : ℕ) → unwrap_or (cond b (Some n) None) 0 ≡ cond b n 0
some_or_zero true n = refl
some_or_zero false n = refl

pub returns-in-Edge-clause-value : goal.returns-in-Edge-clause-value
returns-in-Edge-clause-value c n weighs =
    let net = c.args.self.now.net in
    let e = c.in-Edge.e in
    let f = cost net.grid.now net.width net.prices.now in
    let facts = (pieces_with-Weighs net.grid.now net.ground f c.args.p n).0 weighs in
    let number = allowed_number net.grid.now net.ground e (subst (Allows net.grid.now net.ground) c.in-Edge.is facts.0) in
    c.unwrap_or.ensures ∙ ap (λ o. unwrap_or o 0) (c.cost.ensures.value number) ∙ some_or_zero (is_open net.grid.now e.0) (edge_cost net.grid.now net.width net.prices.now e.0)
    ∙ ap f (sym c.in-Edge.is) ∙ sym facts.1

pub returns-in-Via-clause-value : goal.returns-in-Via-clause-value
returns-in-Via-clause-value c n weighs =
    let net = c.args.self.now.net in
    let f = cost net.grid.now net.width net.prices.now in
    let facts = (pieces_with-Weighs net.grid.now net.ground f c.args.p n).0 weighs in
    ap f (sym c.in-Via.is) ∙ sym facts.1
