use Rattle.command_runs.proofs.ReadDesigns.{design-cut_off, design-grounded}
use Rattle.command_runs.proofs.ReadFiles.{file-failed, sources-failed}
use Rattle.command_runs.proofs.sources.read_grounded.Goals as goal

pub returns-in_err-design-clause-reads : goal.returns-in_err-design-clause-reads
returns-in_err-design-clause-reads g c =
    sources-failed c.from_residual.result c.in_err-design.field-0.0 c.in_err-design.was c.from_residual.ensures.1
    (file-failed c.read_design_source.result c.in_err-design.was c.read_design_source.ensures.reads)

pub returns-in_err-of-clause-reads : goal.returns-in_err-of-clause-reads
returns-in_err-of-clause-reads g c =
    let read = c.in_ok-design.ensures in
    design-cut_off c.from_residual-in_err-of.result c.in_err-of.field-0.0 read.reads read.named c.in_err-of.ensures.cause c.from_residual-in_err-of.ensures.1

pub returns-clause-named : goal.returns-clause-named
returns-clause-named g c = rw c.in_ok-of.ensures.design c.in_ok-design.ensures.named

pub returns-clause-reads : goal.returns-clause-reads
returns-clause-reads g c =
    let read = c.in_ok-design.ensures in
    let made = c.in_ok-of.ensures in
    design-grounded c.in_ok-of.field-0 read.reads read.named made.design made.grounds
