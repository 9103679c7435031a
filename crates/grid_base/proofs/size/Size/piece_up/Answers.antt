-- A piece between two vertices is the only one.
use Rattle.std.proofs.Common.{◌≡◌, Some, false, true, ap, ◌∙◌}
use Rattle.grid_base.specs.declared.edge.Edge.{Edge as EdgeNumber}
use Rattle.grid_base.specs.declared.piece.Piece.TheVariants.{Edge}
use Rattle.grid_base.specs.Numbers.{edge_start, Goes}
use Rattle.grid_base.proofs.Pieces.{start_of-to_next_col, start_of-to_next_row, by_start, one_piece}
use Rattle.grid_base.proofs.size.Size.piece_up.Goals as goal

pub returns-then-leads_to-clause-only : goal.returns-then-leads_to-clause-only
returns-then-leads_to-clause-only c p goes =
    let leads = c.leads_to.ensures.0 c.if-leads_to.true in
    let starts = ap (λ (e : EdgeNumber). edge_start e.0) c.along.ensures ∙ start_of-to_next_col c.args.start.0 in
    ap (λ q. Some q) (one_piece c.args.self.now (Edge c.along.result) p c.args.start.0 c.args.end.0 (leads.0, starts, leads.1) goes)

pub returns-then-leads_to-2-clause-only : goal.returns-then-leads_to-2-clause-only
returns-then-leads_to-2-clause-only c p goes =
    let leads = c.leads_to-else-leads_to.ensures.0 c.if-leads_to-2.true in
    let starts = ap (λ (e : EdgeNumber). edge_start e.0) c.along-2.ensures ∙ start_of-to_next_row c.args.start.0 in
    ap (λ q. Some q) (one_piece c.args.self.now (Edge c.along-2.result) p c.args.start.0 c.args.end.0 (leads.0, starts, leads.1) goes)

pub returns-else-leads_to-3-clause-only : goal.returns-else-leads_to-3-clause-only
returns-else-leads_to-3-clause-only c p goes =
    let s = c.args.self.now in
    let v = c.args.start.0 in
    let w = c.args.end.0 in
    let contradiction : false ≡ true =
    by_start v (λ q. Goes s q v w → false ≡ true)
    (λ col. (rw (c.along.ensures, c.if-leads_to.false) at c.leads_to.ensures.1) (col.0, col.2))
    (λ row. (rw (c.along-2.ensures, c.if-leads_to-2.false) at c.leads_to-else-leads_to.ensures.1) (row.0, row.2))
    (λ layer. (rw c.if-leads_to-3.false at c.leads_to-else-leads_to-2.ensures.1) (layer.0, layer.2))
    p goes.1 goes in cc
