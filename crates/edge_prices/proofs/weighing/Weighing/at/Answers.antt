use Rattle.std.proofs.Common.{◌*◌, slice_index, ap, ◌∙◌}
use Rattle.grid_base.specs.Numbers.{vertices}
use Rattle.edge_prices.specs.Weights.{piece_weight}
use Rattle.edge_prices.proofs.GroundPieces.{pieces_with-Weighs}
use Rattle.edge_prices.proofs.LeastOver.{least_over}
use Rattle.edge_prices.proofs.WeightLimits.{weights_listed}
use Rattle.edge_prices.proofs.weighing.Weighing.at.Goals as goal

pub invariant_of-result-clause-wirelength : goal.invariant_of-result-clause-wirelength
invariant_of-result-clause-wirelength c = ap (λ n. slice_index c.args.net.prices.now (2 * n)) (c.vertices.ensures ∙ ap vertices c.size.ensures)

pub invariant_of-result-clause-listed : goal.invariant_of-result-clause-listed
invariant_of-result-clause-listed c =
    let net = c.args.net in weights_listed net.grid.now net.ground net.width net.prices.now net.demands net.known.listed net.known.used

pub returns-clause-pieces : goal.returns-clause-pieces
returns-clause-pieces c = let net = c.args.net in pieces_with-Weighs net.grid.now net.ground (piece_weight net.grid.now net.width net.prices.now)

pub invariant_of-result-clause-under : goal.invariant_of-result-clause-under
invariant_of-result-clause-under c =
    let net = c.args.net in
    least_over net.grid.now net.ground net.width net.prices.now c.least_demand-demand.result net.known.listed (record { below = c.least_demand-demand.ensures.below; within = c.least_demand-demand.ensures.limit })
