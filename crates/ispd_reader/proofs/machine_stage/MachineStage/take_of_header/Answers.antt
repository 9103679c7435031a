use Rattle.std.proofs.Common.{[]}
use Rattle.grid_graph.specs.Layouts.{layout_of_parts}
use Rattle.ispd_reader.specs.Views.{header_of}
use Rattle.ispd_reader.proofs.MachineSteps.{header_ends}
use Rattle.ispd_reader.proofs.machine_stage.MachineStage.take_of_header.Goals as goal

pub returns-in_ok-new-clause-takes : goal.returns-in_ok-new-clause-takes
returns-in_ok-new-clause-takes c =
    let body = c.in_ok-new.field-0 in
    let header = header_of (layout_of_parts c.in-Some.parts) in
    rw c.in-Header.is (λ made none. ([], c.in_ok-new.ensures.capacities, λ r next. header_ends c.in-Header.header body made header r _ (rw c.in-Some.is at c.in_ok-parts.ensures.takes r next) (c.in_ok-new.ensures.left _)))
