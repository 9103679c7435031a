-- A run that reads files and is refused.
use Rattle.std.proofs.Common.{◌≡◌, ℕ, List, take, Contains, subst}
use Rattle.gr_desk.specs.declared.port.Port.{Port}
use Rattle.gr_desk.specs.declared.port.Port.TheVariants.{Report}
use Rattle.gr_desk.specs.Told.{Told}
use Rattle.command_runs.specs.declared.refusal.Refusal.{Refusal}
use Rattle.command_runs.specs.Lines.{lines_of, status_of}
use Rattle.command_runs.specs.Refusals.{IsCause, IsRefused}
use Rattle.command_runs.specs.Saying.{TriesToSay}
use Rattle.command_runs.specs.Sources.{Source, ports_of}
use Rattle.command_runs.specs.Steps.{OnlyReads}
use Rattle.command_runs.proofs.Causes.{cause-later}
use Rattle.command_runs.proofs.Traces.{gains-after_reads, failed-after_reads}

-- it read, and then said why it is refused
abbrev pub is_refused : (sources : List Source) (a b c : Told) (status : ℕ) (r : Refusal)
    → ¬ Contains (ports_of sources) Report
    → IsCause sources a b r
    → OnlyReads sources a b
    → status ≡ status_of r
    → TriesToSay (lines_of r) b c
    → IsRefused sources a c status
is_refused sources a b c status r apart why reads is tries = record {
  refusal = r;
  status_is = is;
  cause = cause-later sources a b c r tries.part.still (λ p at. tries.part.others.ports p (λ is. apart (subst (λ (x : Port). Contains (ports_of sources) x) is at))) why;
  says = record {
    count = tries.count;
    part = gains-after_reads sources a b c (take tries.count (lines_of r)) apart reads tries.part;
    whole = λ ok. gains-after_reads sources a b c (lines_of r) apart reads (tries.whole (λ failed. ok (failed-after_reads sources a b c reads failed)));
  };
}
