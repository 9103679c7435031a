use Rattle.std.proofs.Common.{◌≡◌, ℕ, List, IfOk, sym, ◌∙◌, ap, subst, arith}
use Rattle.grid_base.specs.declared.piece.Piece.{Piece}
use Rattle.grid_base.specs.declared.size.Size.{Size}
use Rattle.grid_base.specs.declared.vertex.Vertex.{Vertex}
use Rattle.grid_base.specs.Walks.{Joins, InVertices}
use Rattle.grid_graph.specs.Grids.{size_of}
use Rattle.grid_graph.specs.TilePieces.{AreLeastBetweenTiles}
use Rattle.grid_graph.specs.Weighed.{IsAllowed}
use Rattle.edge_prices.specs.Costings.{costed_size, costed_pieces}
use Rattle.lower_bound.specs.Costs.{costed}
use Rattle.lower_bound.specs.NetBounds.{IsNetBound}
use Rattle.lower_bound.specs.Raised.{raised}
use Rattle.lower_bound.specs.TileCosts.{costs_between}
use Rattle.lower_bound.proofs.Costed.{raised_costs, joined_by_costs}
use Rattle.lower_bound.proofs.TileBounds.{costed_alone}
use Rattle.lower_bound.proofs.class_costs.ClassCosts.net_bound_with.Goals as goal
use Rattle.lower_bound.proofs.class_costs.ClassCosts.net_bound_with.Goals.{After-list}

pub new-weights-requires-clause-weights : goal.new-weights-requires-clause-weights
new-weights-requires-clause-weights c p k weighs = omega (arith, c.new-costing.ensures.small p k weighs)

pub new-weights-requires-clause-between : goal.new-weights-requires-clause-between
new-weights-requires-clause-between c =
    let x = c.args.self.now in
    let g = x.grid.now in
    let across = costs_between x.costs.costs.items in
    let its = costed_pieces c.new-costing.result in
    let same : costed g x.width x.ground x.prices.now 0 ≡ its = costed_alone g x.width x.ground x.prices.now ∙ sym c.new-costing.ensures.list in
    subst (λ (s : Size). AreLeastBetweenTiles s its across) (sym c.new-costing.ensures.size)
    (subst (λ (xs : List (Piece × ℕ)). AreLeastBetweenTiles (size_of g) xs across) same c.requires.current.costs.between)

-- the pieces of the weights are those of the ground with their costs
same_pieces : (c : After-list) → raised (costed_pieces c.new-weights.result.weights) c.new-weights.result.extra
    ≡ costed c.args.self.now.grid.now c.args.self.now.width c.args.self.now.ground c.args.self.now.prices.now c.args.piece
same_pieces c =
    let x = c.args.self.now in
    c.new-weights.ensures.pieces ∙ ap (λ xs. raised xs c.args.piece) c.new-costing.ensures.list ∙ raised_costs x.grid.now x.width x.ground x.prices.now c.args.piece

pub bound_at-requires-clause-joined : goal.bound_at-requires-clause-joined
bound_at-requires-clause-joined c =
    let x = c.args.self.now in
    let g = x.grid.now in
    let weights = c.new-weights.result in
    let pieces = raised (costed_pieces weights.weights) weights.extra in
    let priced = costed g x.width x.ground x.prices.now c.args.piece in
    let its_size : costed_size weights.weights ≡ size_of g = c.new-weights.ensures.size ∙ c.new-costing.ensures.size in
    subst (λ (s : Size). Joins s (IsAllowed pieces) (InVertices c.list.result.now)) (sym its_size)
    (subst (λ (xs : List (Piece × ℕ)). Joins (size_of g) (IsAllowed xs) (InVertices c.list.result.now)) (sym (same_pieces (goal.at.bound_at-requires-clause-joined c).After-list))
    (subst (λ (ts : List Vertex). Joins (size_of g) (IsAllowed priced) (InVertices ts)) (sym c.list.ensures.items)
    (joined_by_costs g x.width x.ground x.prices.now c.args.piece c.args.net.now.terminals c.requires.ground)))

pub returns-clause-bound : goal.returns-clause-bound
returns-clause-bound c =
    let x = c.args.self.now in
    let g = x.grid.now in
    let weights = c.new-weights.result in
    let pieces = raised (costed_pieces weights.weights) weights.extra in
    let priced = costed g x.width x.ground x.prices.now c.args.piece in
    let its_size : costed_size weights.weights ≡ size_of g = c.new-weights.ensures.size ∙ c.new-costing.ensures.size in
    subst (λ (ts : List Vertex). IfOk c.bound_at.result (IsNetBound (size_of g) priced ts)) c.list.ensures.items
    (subst (λ (xs : List (Piece × ℕ)). IfOk c.bound_at.result (IsNetBound (size_of g) xs c.list.result.now)) (same_pieces (goal.at.returns-clause-bound c).After-list)
    (subst (λ (s : Size). IfOk c.bound_at.result (IsNetBound s pieces c.list.result.now)) its_size c.bound_at.ensures.bound))
