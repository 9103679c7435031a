use Rattle.grid_graph.specs.Grids.{size_of}
use Rattle.grid_graph.specs.Layouts.{layout_of_parts}
use Rattle.ispd_reader.specs.Views.{extent_of_size}
use Rattle.ispd_reader.proofs.MachineSteps.{body_begins}
use Rattle.ispd_reader.proofs.body.Body.new.Goals as goal

pub returns-clause-left : goal.returns-clause-left
returns-clause-left c =
    let grid = c.in_ok-grid.grid in
    λ r. body_begins grid c.new-nets.result c.new-adjustments.result (layout_of_parts c.args.parts) r c.in_ok-grid.ensures.layout (c.new-nets.ensures.left r) (c.new-adjustments.ensures.left (extent_of_size (size_of grid)))

pub returns-clause-ready : goal.returns-clause-ready
returns-clause-ready c = (c.new-nets.ensures.fits, c.new-adjustments.ensures.fits (size_of c.in_ok-grid.grid))
