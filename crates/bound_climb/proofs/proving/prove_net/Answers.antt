use Rattle.std.proofs.Common.{IfOk, arith}
use Rattle.edge_prices.specs.Costings.{costed_size, costed_pieces}
use Rattle.lower_bound.specs.Raised.{raised}
use Rattle.bound_climb.specs.NetProofs.{ProvesNetBound}
use Rattle.bound_climb.proofs.Carried.{of_net, carried, joined_here}
use Rattle.bound_climb.proofs.proving.prove_net.Goals as goal

pub new-weights-requires-clause-weights : goal.new-weights-requires-clause-weights
new-weights-requires-clause-weights c p k weighs = omega (arith, c.new-costing.ensures.small p k weighs)

pub proof_at-requires-clause-joined : goal.proof_at-requires-clause-joined
proof_at-requires-clause-joined c =
    let grid = c.args.grid.now in
    let width = c.args.net.now.width in
    let prices = c.args.prices.now in
    let terminals = c.args.net.now.terminals in
    let extra = c.new-weights.result in
    let s = costed_size extra.weights in
    let pieces = raised (costed_pieces extra.weights) extra.piece in
    let are = of_net grid width c.args.ground prices c.args.piece terminals s (costed_size c.new-costing.result)
    (costed_pieces c.new-costing.result) pieces c.list.result.now c.new-weights.ensures.size c.new-costing.ensures.size
    c.new-weights.ensures.pieces c.new-costing.ensures.list c.list.ensures.items in
    joined_here grid width c.args.ground prices c.args.piece terminals s pieces c.list.result.now are c.requires.ground

pub returns-clause-proves : goal.returns-clause-proves
returns-clause-proves c =
    let grid = c.args.grid.now in
    let width = c.args.net.now.width in
    let prices = c.args.prices.now in
    let terminals = c.args.net.now.terminals in
    let extra = c.new-weights.result in
    let s = costed_size extra.weights in
    let pieces = raised (costed_pieces extra.weights) extra.piece in
    let are = of_net grid width c.args.ground prices c.args.piece terminals s (costed_size c.new-costing.result)
    (costed_pieces c.new-costing.result) pieces c.list.result.now c.new-weights.ensures.size c.new-costing.ensures.size
    c.new-weights.ensures.pieces c.new-costing.ensures.list c.list.ensures.items in
    carried (λ t xs ts. IfOk c.proof_at.result (ProvesNetBound t xs ts)) grid width c.args.ground prices c.args.piece
    terminals s pieces c.list.result.now are c.proof_at.ensures.proves
