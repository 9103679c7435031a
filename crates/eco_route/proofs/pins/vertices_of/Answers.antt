use Rattle.eco_route.specs.PinPlaces as places
use Rattle.eco_route.proofs.FirstPins.{no_pin, none-at}
use Rattle.eco_route.proofs.pins.vertices_of.Goals as goal

pub vertex_of-requires-clause-inside : goal.vertex_of-requires-clause-inside
vertex_of-requires-clause-inside c = none-at (places.is_outside c.args.grid.now) c.args.pins.now c.requires.inside c.loop-i.i no_pin c.loop-i-test.true

pub vertex_of-requires-clause-layer : goal.vertex_of-requires-clause-layer
vertex_of-requires-clause-layer c = none-at (places.is_off_layers c.args.grid.now) c.args.pins.now c.requires.layers c.loop-i.i no_pin c.loop-i-test.true
