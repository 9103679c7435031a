-- The files of a run of `climb`.
use Rattle.std.proofs.Common.{refl}
use Rattle.gr_desk.specs.declared.port.Port.TheVariants.{CertOut}
use Rattle.command_runs.proofs.FilePorts.{AreInputs, AreOutputs}
use Rattle.command_runs.proofs.Traces.{none_in}
use Rattle.climb_cli.specs.ClimbRun.{ClimbTask, climb_files, climb_sources}

pub climb-inputs : (q : ClimbTask) → AreInputs (climb_sources q)
climb-inputs q = (refl, (refl, (refl, tt)))

pub climb-outputs : (q : ClimbTask) → AreOutputs (climb_files q)
climb-outputs q = (refl, none_in CertOut, tt)
