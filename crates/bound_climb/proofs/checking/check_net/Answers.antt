use Rattle.std.proofs.Common.{◌≤◌, ◌+◌, ℕ, List, Option, All, IfOk, IfSome, arith}
use Rattle.std.proofs.lemmas.Result.{IfOk-weaker}
use Rattle.grid_base.specs.declared.piece.Piece.{Piece}
use Rattle.grid_base.specs.Lists.{HasNoRepeats}
use Rattle.grid_base.specs.Walks.{JoinsList}
use Rattle.grid_graph.specs.Grids.{size_of, Allows}
use Rattle.edge_prices.specs.Costings.{costed_size, costed_pieces}
use Rattle.edge_prices.specs.Weights.{cost}
use Rattle.edge_prices.proofs.GroundPieces.{pieces_with-WeighsOnlyPieces}
use Rattle.lower_bound.specs.Costs.{costed, set_cost}
use Rattle.lower_bound.specs.Raised.{raised}
use Rattle.lower_bound.proofs.Costed.{costed_set}
use Rattle.bound_climb.specs.NetProofs.{IsRight}
use Rattle.bound_climb.proofs.Carried.{of_net, carried, joined_here}
use Rattle.bound_climb.proofs.Low.{right_low}
use Rattle.bound_climb.proofs.Right.{TellsOf, if_told}
use Rattle.bound_climb.proofs.checking.check_net.Goals as goal

pub new-weights-requires-clause-weights : goal.new-weights-requires-clause-weights
new-weights-requires-clause-weights c p k weighs = omega (arith, c.new-costing.ensures.small p k weighs)

pub number_of-requires-clause-joined : goal.number_of-requires-clause-joined
number_of-requires-clause-joined c =
    let grid = c.args.grid.now in
    let width = c.args.net.now.width in
    let prices = c.args.prices.now in
    let terminals = c.args.net.now.terminals in
    let extra = c.new-weights.result in
    let s = costed_size extra.weights in
    let pieces = raised (costed_pieces extra.weights) extra.piece in
    let are = of_net grid width c.args.ground prices c.args.piece terminals s (costed_size c.new-costing.result)
    (costed_pieces c.new-costing.result) pieces c.list.result.now c.new-weights.ensures.size c.new-costing.ensures.size
    c.new-weights.ensures.pieces c.new-costing.ensures.list c.list.ensures.items in
    joined_here grid width c.args.ground prices c.args.piece terminals s pieces c.list.result.now are c.requires.ground

pub returns-clause-right : goal.returns-clause-right
returns-clause-right c =
    let grid = c.args.grid.now in
    let width = c.args.net.now.width in
    let prices = c.args.prices.now in
    let terminals = c.args.net.now.terminals in
    let extra = c.new-weights.result in
    let s = costed_size extra.weights in
    let pieces = raised (costed_pieces extra.weights) extra.piece in
    let are = of_net grid width c.args.ground prices c.args.piece terminals s (costed_size c.new-costing.result)
    (costed_pieces c.new-costing.result) pieces c.list.result.now c.new-weights.ensures.size c.new-costing.ensures.size
    c.new-weights.ensures.pieces c.new-costing.ensures.list c.list.ensures.items in
    carried (λ t xs ts. IfOk c.number_of.result (λ (answer : Option ℕ). TellsOf answer (IsRight t xs ts c.args.proof.now)))
    grid width c.args.ground prices c.args.piece terminals s pieces c.list.result.now are c.number_of.ensures.right

pub returns-clause-low : goal.returns-clause-low
returns-clause-low c =
    let grid = c.args.grid.now in
    let width = c.args.net.now.width in
    let over = c.args.ground in
    let prices = c.args.prices.now in
    let piece = c.args.piece in
    let terminals = c.args.net.now.terminals in
    let pays = costed grid width over prices piece in
    let Right : ℕ → Type 0 = IsRight (size_of grid) pays terminals c.args.proof.now in
    let Low : ℕ → Type 0 = λ number. (set : List Piece) → HasNoRepeats set → All (Allows grid over) set
    → JoinsList (size_of grid) set terminals → number ≤ set_cost grid width prices piece set in
    IfOk-weaker c.number_of.result (λ (answer : Option ℕ). TellsOf answer Right) (λ (answer : Option ℕ). IfSome answer Low)
    (λ answer tells. if_told answer Right Low tells (λ number right set once allowed joins.
    let is = costed_set grid width over prices piece set terminals once allowed joins in
    let inside = pieces_with-WeighsOnlyPieces grid over (λ p. cost grid width prices p + piece) in
    omega (
      arith,
      is.weighs,
      right_low (size_of grid) pays is.costs terminals c.args.proof.now number inside right is.is_set is.joins,
    )))
    (returns-clause-right c)
