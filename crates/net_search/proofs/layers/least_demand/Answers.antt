use Rattle.std.proofs.Common.{◌≤◌, arith}
use Rattle.net_search.specs.Using.{HasEdges}
use Rattle.net_search.specs.declared.layers.LayerUse.{LayerUse}
use Rattle.net_search.proofs.Least.{least_where, all_end}
use Rattle.net_search.proofs.layers.least_demand.Goals as goal

pub loop-layer-preserved : goal.loop-layer-preserved
loop-layer-preserved c =
    least_where HasEdges (λ layer. layer.demand) c.args.layers.now c.loop-layer.layer-index _ c.loop-layer.least c.min-least.result _
    (omega (arith, c.told-layers, c.loop-layer-test.true)) c.demand_where_used.ensures c.min-least.ensures c.loop-layer.invariant

pub returns : goal.returns
returns c =
    let So : LayerUse → Type 0 = λ layer. HasEdges layer → c.loop-layer.least ≤ layer.demand in
    all_end So c.args.layers.now c.loop-layer.layer-index (omega (arith, c.told-layers, c.loop-layer-test.false)) c.loop-layer.invariant
