-- The ways in which a run ends: with what comes of what was read, refused, and on words that are no command.
use Rattle.std.proofs.Common.{◌≡◌, ℕ, List, [], ◌∷◌, Option, Some, None, Ok, Err, refl, take, inl, inr}
use Rattle.gr_desk.specs.declared.port.Port.TheVariants.{RoutesOut}
use Rattle.gr_desk.specs.Told.{Told}
use Rattle.command_runs.specs.declared.refusal.Refusal.{Refusal}
use Rattle.command_runs.specs.declared.refusal.Refusal.TheVariants.{NoCommand, NoMemory}
use Rattle.command_runs.specs.Lines.{lines_of, status_of}
use Rattle.command_runs.specs.Saying.{Leaves, TriesToSay}
use Rattle.command_runs.specs.Steps.{ReadsSources}
use Rattle.command_runs.specs.Traces.{ReportsSince}
use Rattle.command_runs.proofs.EndedRuns.{left_files, run-left, run-refused}
use Rattle.command_runs.proofs.FilePorts.{AreInputs, AreOutputs}
use Rattle.command_runs.proofs.ReadFiles.{reads-unbegun}
use Rattle.command_runs.proofs.Traces.{none_in, touches-none}
use Rattle.command_words.specs.RerouteLine.{RerouteTask}
use Rattle.reroute_cli.specs.declared.outcome.Outcome.{Outcome}
use Rattle.reroute_cli.specs.RerouteHeadline.{IsRerouteOutcome, IsRerouteResult, rerouted_outcome}
use Rattle.reroute_cli.specs.RerouteRun.{IsRerouteRun, reroute_files, reroute_sources}
use Rattle.reroute_cli.specs.RerouteRuns.{IsUncalledRun}
use Rattle.reroute_cli.specs.Usage.{reroute_usage}

-- ---- its files

pub reroute-inputs : (input : List ℕ) (routes : Option (List ℕ)) → AreInputs (reroute_sources input routes)
reroute-inputs input (Some routes) = (refl, (refl, tt))
reroute-inputs input None = (refl, tt)

pub new-output : (name : List ℕ) → AreOutputs (record { port = RoutesOut; name = name } ∷ [])
new-output name = (refl, none_in RoutesOut, tt)

-- ---- words that are a command

-- a run that leaves what comes of what it read
pub run-rerouted : {T : Type 0} (q : RerouteTask) (a b c : Told) (status : ℕ) (o : Outcome) {v : T} → IsRerouteResult q a o
    → ReadsSources (reroute_sources q.input q.routes) a b (Ok v)
    → Leaves (left_files (rerouted_outcome o).objects (reroute_files q)) (rerouted_outcome o) b c status
    → IsRerouteRun q a c status
run-rerouted q a b c status o is read leaves =
    run-left (reroute_sources q.input q.routes) (reroute_files q) (IsRerouteOutcome q a) a b c status (rerouted_outcome o)
    (reroute-inputs q.input q.routes) (new-output q.output) (o, is, refl) read leaves

-- a run that is refused
pub run-not_rerouted : {T : Type 0} (q : RerouteTask) (a b c : Told) (status : ℕ) (r : Refusal)
    → ReadsSources {T = T} (reroute_sources q.input q.routes) a b (Err r) → status ≡ status_of r → TriesToSay (lines_of r) b c
    → IsRerouteRun q a c status
run-not_rerouted q a b c status r read is tries =
    run-refused (reroute_sources q.input q.routes) (reroute_files q) (IsRerouteOutcome q a) a b c status r
    (reroute-inputs q.input q.routes) (new-output q.output) read is tries

-- a run that had no memory to read its words
pub run-unread_words : (q : RerouteTask) (a c : Told) (status : ℕ) → status ≡ status_of NoMemory → TriesToSay (lines_of NoMemory) a c → IsRerouteRun q a c status
run-unread_words q a c status is tries =
    run-not_rerouted q a a c status NoMemory (reads-unbegun {T = ℕ} (reroute_sources q.input q.routes) a NoMemory refl) is tries

-- ---- words that are no command

said-since : (text : List ℕ) (a c : Told) → TriesToSay text a c → ReportsSince a.out_faults a c text
said-since text a c tries = record { count = tries.count; part = tries.part.added; whole = λ calm. (tries.whole calm).added }

pub run-uncalled : (a c : Told) (status : ℕ) → status ≡ status_of NoCommand → TriesToSay reroute_usage a c → IsUncalledRun a c status
run-uncalled a c status is tries = record {
  says = inl (is, said-since reroute_usage a c tries);
  touches = touches-none a c (take tries.count reroute_usage) tries.part;
  unread = tries.part.still;
  in_order = tries.part.stray.kept (λ other. absurd (other refl));
}

pub run-uncalled_memory : (a c : Told) (status : ℕ) → status ≡ status_of NoMemory → TriesToSay (lines_of NoMemory) a c → IsUncalledRun a c status
run-uncalled_memory a c status is tries = record {
  says = inr (is, said-since (lines_of NoMemory) a c tries);
  touches = touches-none a c (take tries.count (lines_of NoMemory)) tries.part;
  unread = tries.part.still;
  in_order = tries.part.stray.kept (λ other. absurd (other refl));
}
