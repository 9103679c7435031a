use Rattle.command_runs.proofs.ReadFiles.{sources-failed, sources-passed}
use Rattle.reroute_cli.proofs.given.read_alone.Goals as goal

pub returns-in_err-grounded-clause-reads : goal.returns-in_err-grounded-clause-reads
returns-in_err-grounded-clause-reads g c =
    sources-failed c.from_residual.result c.in_err-grounded.field-0.0 c.in_err-grounded.was c.from_residual.ensures.1 c.read_grounded.ensures.reads

pub returns-clause-reads : goal.returns-clause-reads
returns-clause-reads g c = sources-passed _ c.in_ok-grounded.ensures.reads

pub returns-clause-are_read : goal.returns-clause-are_read
returns-clause-are_read g c = (c.in_ok-grounded.ensures.named, c.in_ok-grounded.ensures.grounds, c.none-blocks.ensures)
