use Rattle.std.proofs.Common.{◌≡◌, ℕ, ◌+◌, List, sym, ◌∙◌, ap, subst, arith}
use Rattle.grid_base.specs.declared.piece.Piece.{Piece}
use Rattle.grid_base.specs.declared.size.Size.{Size}
use Rattle.grid_base.specs.declared.vertex.Vertex.{Vertex}
use Rattle.grid_base.specs.Walks.{Joins, InVertices}
use Rattle.grid_graph.specs.Grids.{size_of}
use Rattle.grid_graph.specs.Weighed.{IsAllowed}
use Rattle.edge_prices.specs.Costings.{costed_size, costed_pieces}
use Rattle.edge_prices.specs.Weights.{cost}
use Rattle.edge_prices.proofs.GroundPieces.{pieces_with-WeighsOnlyPieces}
use Rattle.lower_bound.specs.Costs.{costed}
use Rattle.lower_bound.specs.NetBounds.{IsNetBound}
use Rattle.lower_bound.specs.Raised.{raised}
use Rattle.lower_bound.proofs.Costed.{costed_set, raised_costs, joined_by_costs}
use Rattle.lower_bound.proofs.LowBounds.{net_bound_low}
use Rattle.lower_bound.proofs.bounds.net_bound.Goals as goal

pub new-weights-requires-clause-weights : goal.new-weights-requires-clause-weights
new-weights-requires-clause-weights c p k weighs = omega (arith, c.new-costing.ensures.small p k weighs)

pub bound_at-requires-clause-joined : goal.bound_at-requires-clause-joined
bound_at-requires-clause-joined c =
    let grid = c.args.grid.now in
    let width = c.args.net.now.width in
    let prices = c.args.prices.now in
    let weights = c.new-weights.result in
    let pieces = raised (costed_pieces weights.weights) weights.piece in
    let priced = costed grid width c.args.ground prices c.args.piece in
    let same : pieces ≡ priced = c.new-weights.ensures.pieces ∙ ap (λ xs. raised xs c.args.piece) c.new-costing.ensures.list ∙ raised_costs grid width c.args.ground prices c.args.piece in
    let its_size : costed_size weights.weights ≡ size_of grid = c.new-weights.ensures.size ∙ c.new-costing.ensures.size in
    subst (λ (s : Size). Joins s (IsAllowed pieces) (InVertices c.list.result.now)) (sym its_size)
    (subst (λ (xs : List (Piece × ℕ)). Joins (size_of grid) (IsAllowed xs) (InVertices c.list.result.now)) (sym same)
    (subst (λ (ts : List Vertex). Joins (size_of grid) (IsAllowed priced) (InVertices ts)) (sym c.list.ensures.items)
    (joined_by_costs grid width c.args.ground prices c.args.piece c.args.net.now.terminals c.requires.ground)))

pub returns-clause-bound : goal.returns-clause-bound
returns-clause-bound c =
    let grid = c.args.grid.now in
    let width = c.args.net.now.width in
    let prices = c.args.prices.now in
    let weights = c.new-weights.result in
    let pieces = raised (costed_pieces weights.weights) weights.piece in
    let priced = costed grid width c.args.ground prices c.args.piece in
    let same : pieces ≡ priced = c.new-weights.ensures.pieces ∙ ap (λ xs. raised xs c.args.piece) c.new-costing.ensures.list ∙ raised_costs grid width c.args.ground prices c.args.piece in
    let its_size : costed_size weights.weights ≡ size_of grid = c.new-weights.ensures.size ∙ c.new-costing.ensures.size in
    subst (λ (ts : List Vertex). IsNetBound (size_of grid) priced ts c.bound_at.result) c.list.ensures.items
    (subst (λ (xs : List (Piece × ℕ)). IsNetBound (size_of grid) xs c.list.result.now c.bound_at.result) same
    (subst (λ (s : Size). IsNetBound s pieces c.list.result.now c.bound_at.result) its_size c.bound_at.ensures.bound))

pub returns-clause-low : goal.returns-clause-low
returns-clause-low c set once allowed joins =
    let grid = c.args.grid.now in
    let width = c.args.net.now.width in
    let prices = c.args.prices.now in
    let q = c.args.piece in
    let is = costed_set grid width c.args.ground prices q set c.args.net.now.terminals once allowed joins in
    let inside = pieces_with-WeighsOnlyPieces grid c.args.ground (λ p. cost grid width prices p + q) in
    omega (arith, is.weighs, net_bound_low (size_of grid) (costed grid width c.args.ground prices q) c.args.net.now.terminals c.bound_at.result inside (returns-clause-bound c) is.costs is.is_set is.joins)
