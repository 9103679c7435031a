use Rattle.std.proofs.Common.{subst, arith}
use Rattle.grid_graph.specs.declared.floors.Floors.{Floors}
use Rattle.grid_graph.specs.Floors.{AreFloors}
use Rattle.lower_bound.specs.Raised.{raised}
use Rattle.lower_bound.proofs.LedWeights.{led_tile_floors, led_floors_below, same_floors}
use Rattle.lower_bound.proofs.led.LedFlooredWeights.floors.Goals as goal

pub returns-clause-below : goal.returns-clause-below
returns-clause-below g c =
    let x = c.args.self.now in
    let floors = c.floors-floors.result in
    let s = g.W.Weights.size x.weights in
    let pieces = g.W.Weights.pieces x.weights in
    let costs = x.costs.now.costs.items in
    let tile_floors = led_tile_floors x.costs.now.size s costs floors x.extra x.flat c.floors-floors.ensures.tiles in
    subst (λ (f : Floors). AreFloors f (raised pieces x.extra))
    (same_floors floors x.extra c.from-extra.result c.min.result c.min-2.result c.from-extra.ensures (omega (arith, c.min.ensures, c.from-extra.ensures)) (omega (arith, c.min-2.ensures, c.from-extra.ensures)))
    (led_floors_below s pieces costs floors x.extra x.under tile_floors)
