use Rattle.std.proofs.Common.{◌∙◌, ap, arith}
use Rattle.edge_prices.specs.PieceLists.{pieces_with}
use Rattle.edge_prices.specs.Weights.{cost}
use Rattle.edge_prices.proofs.GroundPieces.{AreGroundPieces-same, pieces_with-Weighs}
use Rattle.edge_prices.proofs.WeightLimits.{costs_listed, cost-limit}
use Rattle.edge_prices.proofs.costing.Costing.new.Goals as goal

pub invariant_of-result : goal.invariant_of-result
invariant_of-result c =
    let net = c.new.result in
    record { listed = costs_listed net.grid.now net.ground net.width net.prices.now net.demands net.known.listed net.known.used }

pub returns-clause-pieces : goal.returns-clause-pieces
returns-clause-pieces c =
    let net = c.new.result in
    let made = c.new.ensures in
    AreGroundPieces-same cost net.grid.now _ net.ground _ net.width _ net.prices.now _ _ made.grid made.ground made.width made.prices
    (pieces_with-Weighs net.grid.now net.ground (cost net.grid.now net.width net.prices.now))

pub returns-clause-list : goal.returns-clause-list
returns-clause-list c =
    let net = c.new.result in
    let made = c.new.ensures in
    ap (λ prices. pieces_with net.grid.now net.ground (cost net.grid.now net.width prices)) made.prices ∙ ap (λ width. pieces_with net.grid.now net.ground (cost net.grid.now width c.args.prices.now)) made.width
    ∙ ap (λ over. pieces_with net.grid.now over (cost net.grid.now c.args.width c.args.prices.now)) made.ground ∙ ap (λ g. pieces_with g c.args.ground (cost g c.args.width c.args.prices.now)) made.grid

pub returns-clause-small : goal.returns-clause-small
returns-clause-small c p k weighs =
    let net = c.new.result in
    let facts = (pieces_with-Weighs net.grid.now net.ground (cost net.grid.now net.width net.prices.now) p k).0 weighs in
    omega (arith, facts.1, cost-limit net.grid.now net.ground net.width net.prices.now net.demands p net.known.listed net.known.used facts.0)
