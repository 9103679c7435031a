-- The ways in which a run ends: with what comes of what was read, refused, and on words that are no command.
use Rattle.std.proofs.Common.{◌≡◌, ℕ, List, take, Option, Some, None, Ok, Err, refl}
use Rattle.gr_desk.specs.declared.port.Port.TheVariants.{CertOut}
use Rattle.gr_desk.specs.Told.{Told}
use Rattle.command_runs.specs.declared.refusal.Refusal.{Refusal}
use Rattle.command_runs.specs.declared.refusal.Refusal.TheVariants.{NoCommand}
use Rattle.command_runs.specs.Lines.{lines_of, status_of}
use Rattle.command_runs.specs.Saying.{Leaves, TriesToSay}
use Rattle.command_runs.specs.Steps.{ReadsSources}
use Rattle.command_runs.proofs.EndedRuns.{left_files, run-left, run-refused}
use Rattle.command_runs.proofs.FilePorts.{AreInputs, AreOutputs}
use Rattle.command_runs.proofs.Traces.{none_in, touches-none}
use Rattle.unavoidable_cli.specs.declared.outcome.Outcome.{Outcome}
use Rattle.unavoidable_cli.specs.FoundHeadline.{IsOutcome, IsUnavoidableOutcome, run_outcome}
use Rattle.unavoidable_cli.specs.UnavoidableRun.{IsUnavoidableRun, cert_sources, unavoidable_files, unavoidable_sources}
use Rattle.unavoidable_cli.specs.UnavoidableRuns.{IsUsageRun}
use Rattle.unavoidable_cli.specs.Words.{UnavoidableTask, usage_text}

-- ---- its files

cert-inputs : (cert : Option (List ℕ)) → AreInputs (cert_sources cert)
cert-inputs None = tt
cert-inputs (Some name) = (refl, tt)

unavoidable-inputs : (q : UnavoidableTask) → AreInputs (unavoidable_sources q)
unavoidable-inputs q = (refl, (refl, cert-inputs q.cert))

pub unavoidable-outputs : (q : UnavoidableTask) → AreOutputs (unavoidable_files q)
unavoidable-outputs q = (refl, none_in CertOut, tt)

-- ---- words that are a command

-- a run that leaves what comes of what it read
pub run-shown : {T : Type 0} (q : UnavoidableTask) (a b c : Told) (status : ℕ) (o : Outcome) {v : T} → IsOutcome q a o
    → ReadsSources (unavoidable_sources q) a b (Ok v)
    → Leaves (left_files (run_outcome o).objects (unavoidable_files q)) (run_outcome o) b c status
    → IsUnavoidableRun q a c status
run-shown q a b c status o is read leaves =
    run-left (unavoidable_sources q) (unavoidable_files q) (IsUnavoidableOutcome q a) a b c status (run_outcome o)
    (unavoidable-inputs q) (unavoidable-outputs q) (o, is, refl) read leaves

-- a run that is refused
pub run-not_shown : {T : Type 0} (q : UnavoidableTask) (a b c : Told) (status : ℕ) (r : Refusal)
    → ReadsSources {T = T} (unavoidable_sources q) a b (Err r) → status ≡ status_of r → TriesToSay (lines_of r) b c
    → IsUnavoidableRun q a c status
run-not_shown q a b c status r read is tries =
    run-refused (unavoidable_sources q) (unavoidable_files q) (IsUnavoidableOutcome q a) a b c status r
    (unavoidable-inputs q) (unavoidable-outputs q) read is tries

-- ---- words that are no command

pub run-usage : (a c : Told) (status : ℕ) → status ≡ status_of NoCommand → TriesToSay usage_text a c → IsUsageRun a c status
run-usage a c status is tries = record {
  status_is = is;
  says = record { count = tries.count; part = tries.part.added; whole = λ calm. (tries.whole calm).added };
  touches = touches-none a c (take tries.count usage_text) tries.part;
  unread = tries.part.still;
  in_order = tries.part.stray.kept (λ other. absurd (other refl));
}
