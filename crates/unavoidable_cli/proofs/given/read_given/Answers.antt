use Rattle.std.proofs.Common.{Err, refl}
use Rattle.command_runs.proofs.ReadFiles.{sources-failed}
use Rattle.unavoidable_cli.proofs.given.read_given.Goals as goal

pub returns-in-Err-clause-reads : goal.returns-in-Err-clause-reads
returns-in-Err-clause-reads g c =
    let refusal = c.in-Err.refusal in
    rw c.in-None.is (sources-failed (Err refusal) refusal refl refl c.in-Err.ensures.reads)

pub returns-in-Err-read_certified-clause-reads : goal.returns-in-Err-read_certified-clause-reads
returns-in-Err-read_certified-clause-reads g c =
    let refusal = c.in-Err-read_certified.refusal in
    rw c.in-Some.is (sources-failed (Err refusal) refusal refl refl c.in-Err-read_certified.ensures.reads)
