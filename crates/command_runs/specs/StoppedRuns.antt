-- Runs that stop behind the files that they read.
use Rattle.std.specs.Prelude.{◌≡◌, ℕ, List, []}
use Rattle.gr_desk.specs.Told.{Told}
use Rattle.command_runs.specs.CommandRun.{ExpectsNames}
use Rattle.command_runs.specs.Sources.{Source, ports_of}
use Rattle.command_runs.specs.Traces.{ReportsSince, TouchesOnly}

-- a run that has read these files, none of which failed, and makes none, but says why; the command names all of the others too
pub record IsStoppedRun (read named : List Source) (text : List ℕ) (before after : Told) : Type 0 where
  pub says : ReportsSince before.out_faults before after text
  pub touches : TouchesOnly (ports_of read) [] before after
  pub unread : after.in_faults ≡ before.in_faults
  pub in_order : ExpectsNames named before → after.strayed ≡ before.strayed
