-- How a run of `guide` ends.
use Rattle.std.proofs.Common.{◌≡◌, ℕ, [], ◌∷◌, refl}
use Rattle.gr_desk.specs.declared.port.Port.TheVariants.{GuideOut, RoutesIn}
use Rattle.gr_desk.specs.Told.{Told}
use Rattle.command_runs.specs.Saying.{TriesToSay}
use Rattle.command_runs.specs.Sources.{HasBytes, design_source}
use Rattle.command_runs.proofs.FilePorts.{AreInputs, AreOutputs}
use Rattle.command_runs.proofs.StoppedRuns.{stopped-run}
use Rattle.command_runs.proofs.Traces.{none_in}
use Rattle.guide_cli.specs.GuideLines.{far_status, far_line}
use Rattle.guide_cli.specs.GuideRun.{GuideTask, IsFarRun, guide_files, guide_sources}
use Rattle.guide_cli.specs.NearDesigns.{NamesFarDesign, ReadsFar}

pub guide-inputs : (q : GuideTask) → AreInputs (guide_sources q)
guide-inputs q = (refl, (refl, tt))

pub guide-outputs : (q : GuideTask) → AreOutputs (guide_files q)
guide-outputs q = (refl, none_in GuideOut, tt)

-- a run on a design that is not near
pub far-run : (q : GuideTask) (a b c : Told) (status : ℕ) → HasBytes a.files q.input NamesFarDesign → ReadsFar q.input a b → status ≡ far_status → TriesToSay far_line b c → IsFarRun q a c status
far-run q a b c status named read is tries = record {
  named = named;
  status_is = is;
  stopped = stopped-run (design_source q.input) (record { port = RoutesIn; name = q.routes } ∷ guide_files q) far_line a b c (refl, tt) read.0 read.1 tries;
}
