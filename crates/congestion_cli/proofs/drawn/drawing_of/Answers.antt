use Rattle.std.proofs.Common.{refl}
use Rattle.grid_graph.specs.Grids.{size_of}
use Rattle.congestion_cli.proofs.Drawables.{few_layers, maps-drawable}
use Rattle.congestion_cli.proofs.drawn.drawing_of.Goals as goal

pub returns-in_ok-cut-in-Svg-clause-drawing : goal.returns-in_ok-cut-in-Svg-clause-drawing
returns-in_ok-cut-in-Svg-clause-drawing c =
    let mapped = rw c.as_slice.ensures.value at c.in_ok-maps-in-Svg.ensures.maps in
    rw c.in-Svg.is (record { measured = refl; layered = refl; mapped = mapped; cut = c.in_ok-cut-in-Svg.ensures })

pub returns-in_ok-cut-in-Svg-clause-drawable : goal.returns-in_ok-cut-in-Svg-clause-drawable
returns-in_ok-cut-in-Svg-clause-drawable c =
    let g = c.args.design.grid in
    (maps-drawable g c.args.shown c.args.cert.now c.in_ok-cut-in-Svg.cut c.in_ok-maps-in-Svg.maps c.in_ok-maps-in-Svg.ensures.whole c.in_ok-cut-in-Svg.ensures, few_layers (size_of g) c.args.shown c.requires.layers)
