use Rattle.std.proofs.Common.{◌≡◌, ℕ, List, sym, ◌∙◌, subst}
use Rattle.std.proofs.lemmas.Result.{IfOk-weaker}
use Rattle.grid_base.specs.declared.piece.Piece.{Piece}
use Rattle.grid_base.specs.declared.size.Size.{Size}
use Rattle.grid_graph.specs.Flat.{IsFlatOf}
use Rattle.grid_graph.specs.Grids.{size_of}
use Rattle.grid_graph.specs.TilePieces.{AreLeastBetweenTiles}
use Rattle.edge_prices.specs.Costings.{costed_pieces}
use Rattle.lower_bound.specs.Costs.{costed}
use Rattle.lower_bound.specs.TileCosts.{costs_between}
use Rattle.lower_bound.proofs.ClassBounds.{costed_alone}
use Rattle.overflow_bounds.specs.ClassGraphs.{IsGraphOfClass}
use Rattle.overflow_bounds.specs.MergedGraphs.{IsMerged}
use Rattle.overflow_bounds.proofs.class_graph.graph_of.Goals as goal

pub renew-requires-clause-flat : goal.renew-requires-clause-flat
renew-requires-clause-flat c = subst (IsFlatOf c.args.costs.now.size) (sym c.size.ensures) c.requires.flat

pub returns-clause-graph : goal.returns-clause-graph
returns-clause-graph c =
    let g = c.args.grid.now in
    let s = size_of g in
    let new = c.renew.new.self in
    let across = costs_between new.costs.items in
    let its = costed_pieces c.new-costing.result in
    let flat : IsFlatOf new.size s = subst (λ (x : Size). IsFlatOf x s) (sym c.renew.ensures.size) c.requires.flat in
    let same : its ≡ costed g c.args.width c.args.ground c.args.prices.now 0 = c.new-costing.ensures.list ∙ costed_alone g c.args.width c.args.ground c.args.prices.now in
    let between : AreLeastBetweenTiles s (costed g c.args.width c.args.ground c.args.prices.now 0) across =
    subst (λ (xs : List (Piece × ℕ)). AreLeastBetweenTiles s xs across) same
    (subst (λ (x : Size). AreLeastBetweenTiles x its across) c.size.ensures c.renew.ensures.between) in
    IfOk-weaker c.of.result (IsMerged c.size-2.result across) (IsGraphOfClass g c.args.width c.args.ground c.args.prices.now)
    (λ m is. record {
      flat = new.size;
      flat_of = flat;
      across = across;
      between = between;
      merged = subst (λ (x : Size). IsMerged x across m) c.size-2.ensures is;
    })
    c.of.ensures
