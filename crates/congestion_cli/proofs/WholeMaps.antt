-- The ways in which a run ends: with what comes of what was read, refused, and at its words.
use Rattle.std.proofs.Common.{◌≡◌, ℕ, List, Option, Some, None, take, Ok, Err, refl}
use Rattle.gr_desk.specs.declared.port.Port.TheVariants.{MapOut}
use Rattle.gr_desk.specs.Told.{Told}
use Rattle.command_runs.specs.declared.refusal.Refusal.{Refusal}
use Rattle.command_runs.specs.declared.refusal.Refusal.TheVariants.{NoCommand}
use Rattle.command_runs.specs.Lines.{lines_of, status_of}
use Rattle.command_runs.specs.Saying.{Leaves, TriesToSay}
use Rattle.command_runs.specs.Steps.{ReadsSources}
use Rattle.command_runs.proofs.EndedRuns.{left_files, run-left, run-refused}
use Rattle.command_runs.proofs.FilePorts.{AreInputs, AreOutputs}
use Rattle.command_runs.proofs.Traces.{none_in, touches-none}
use Rattle.command_words.specs.MapLine.{MapTask}
use Rattle.congestion_cli.specs.declared.outcome.Outcome.{Outcome}
use Rattle.congestion_cli.specs.MapHeadline.{IsMapOutcome, IsOutcome, run_outcome}
use Rattle.congestion_cli.specs.MapRun.{IsMapRun}
use Rattle.congestion_cli.specs.MapRuns.{IsMapUsageRun, map_usage_text}
use Rattle.congestion_cli.specs.MapSources.{cut_of, cut_source, map_files, map_sources}

-- ---- its files

cut-inputs : (cut : Option (List ℕ)) → AreInputs (cut_source cut)
cut-inputs None = tt
cut-inputs (Some name) = (refl, tt)

map-inputs : (q : MapTask) → AreInputs (map_sources q)
map-inputs q = (refl, (refl, cut-inputs (cut_of q.form)))

pub map-outputs : (q : MapTask) → AreOutputs (map_files q)
map-outputs q = (refl, none_in MapOut, tt)

-- ---- words that are a command

-- a run that leaves what comes of what it read
pub run-drawn : {T : Type 0} (q : MapTask) (a b c : Told) (status : ℕ) (o : Outcome) {v : T} → IsOutcome q a o
    → ReadsSources (map_sources q) a b (Ok v)
    → Leaves (left_files (run_outcome q o).objects (map_files q)) (run_outcome q o) b c status
    → IsMapRun q a c status
run-drawn q a b c status o is read leaves =
    run-left (map_sources q) (map_files q) (IsMapOutcome q a) a b c status (run_outcome q o)
    (map-inputs q) (map-outputs q) (o, is, refl) read leaves

-- a run that is refused
pub run-undrawn : {T : Type 0} (q : MapTask) (a b c : Told) (status : ℕ) (r : Refusal)
    → ReadsSources {T = T} (map_sources q) a b (Err r) → status ≡ status_of r → TriesToSay (lines_of r) b c
    → IsMapRun q a c status
run-undrawn q a b c status r read is tries =
    run-refused (map_sources q) (map_files q) (IsMapOutcome q a) a b c status r
    (map-inputs q) (map-outputs q) read is tries

-- ---- words that are no command

pub run-map_usage : (a c : Told) (status : ℕ) → status ≡ status_of NoCommand → TriesToSay map_usage_text a c → IsMapUsageRun a c status
run-map_usage a c status is tries = record {
  status_is = is;
  says = record { count = tries.count; part = tries.part.added; whole = λ calm. (tries.whole calm).added };
  touches = touches-none a c (take tries.count map_usage_text) tries.part;
  unread = tries.part.still;
  in_order = tries.part.stray.kept (λ other. absurd (other refl));
}
