-- What a run touches: one that read some files and then wrote to the report, and one that only wrote to the report.
use Rattle.std.proofs.Common.{◌≡◌, ◌≢◌, ℕ, List, [], ◌∷◌, ◌++◌, Contains, refl, sym, ◌∙◌, ap, subst, arith, inl, inr}
use Rattle.std.specs.Prelude.{◌⊎◌}
use Rattle.std.proofs.lemmas.List.{map-append}
use Rattle.std.proofs.lemmas.List.Elements.{Contains-append_left, Contains-append_right, Contains-append_cases}
use Rattle.std.specs.declared.option.Option.{Option}
use Rattle.std.specs.Io.KnownBytes.{Appends}
use Rattle.gr_desk.specs.declared.port.Port.{Port}
use Rattle.gr_desk.specs.declared.port.Port.TheVariants.{Report}
use Rattle.gr_desk.specs.Causes.{Rose}
use Rattle.gr_desk.specs.Runs.{Adds}
use Rattle.gr_desk.specs.Told.{Told, PortTold}
use Rattle.grid_base.proofs.Lists.{head_or_rest}
use Rattle.command_runs.specs.Sources.{Source, ports_of, AreOrderlyOpens}
use Rattle.command_runs.specs.Steps.{OnlyReads}
use Rattle.command_runs.specs.Traces.{ReportGains, TouchesOnly, OutputFailed, but_for_output}

-- nothing is in an empty list
pub none_in : (p : Port) → ¬ Contains [] p
none_in p at = absurd (omega (arith, at.1))

-- what is in a list of one is it
pub only_of : (p q : Port) → Contains (q ∷ []) p → p ≡ q
only_of p q at = elim (head_or_rest q [] p at) [
  | inl is ↦ is
  | inr rest ↦ absurd (none_in p rest)
]

-- what is in a list of two is one of them
pub contained_in_two : (p q r : Port) → Contains (q ∷ r ∷ []) p → (p ≡ q) ⊎ (p ≡ r)
contained_in_two p q r at = elim (head_or_rest q (r ∷ []) p at) [
  | inl is ↦ inl is
  | inr rest ↦ inr (only_of p r rest)
]

-- the ports of files and of others behind them
pub ports-first : (first later : List Source) (p : Port) → Contains (ports_of first) p → Contains (ports_of (first ++ later)) p
ports-first first later p at =
    subst (λ (ports : List Port). Contains ports p) (sym (map-append (λ (s : Source). s.port) first later)) (Contains-append_left (ports_of first) (ports_of later) p at)

pub ports-later : (first later : List Source) (p : Port) → Contains (ports_of later) p → Contains (ports_of (first ++ later)) p
ports-later first later p at =
    subst (λ (ports : List Port). Contains ports p) (sym (map-append (λ (s : Source). s.port) first later)) (Contains-append_right (ports_of first) (ports_of later) p at)

pub ports-either : (first later : List Source) (p : Port) → Contains (ports_of (first ++ later)) p → Contains (ports_of first) p ⊎ Contains (ports_of later) p
ports-either first later p at =
    Contains-append_cases (ports_of first) (ports_of later) p (subst (λ (ports : List Port). Contains ports p) (map-append (λ (s : Source). s.port) first later) at)

-- what the report gained after a step that left it alone
pub gains-after_reads : (sources : List Source) (a b c : Told) (text : List ℕ) → ¬ Contains (ports_of sources) Report
    → OnlyReads sources a b → Adds b c Report text → ReportGains a c text
gains-after_reads sources a b c text apart reads writes =
    subst (λ (p : PortTold). Appends p.written (c.ports Report).written text) (reads.others Report apart) writes.added

-- a write that failed after a step without writes failed in the run
pub failed-after_reads : (sources : List Source) (a b c : Told) → OnlyReads sources a b → Rose b.out_faults c.out_faults → OutputFailed a c
failed-after_reads sources a b c reads failed = subst (λ (n : ℕ). Rose n c.out_faults) reads.still failed

-- a port that keeps what is left to be read there and the expected name
pub but_for_output-of : (x y : PortTold) → y.rest ≡ x.rest → y.expected ≡ x.expected → y ≡ but_for_output x y
but_for_output-of x y rest expected =
    ap (λ (r : Option (List ℕ)). record y { rest = r }) rest ∙ ap (λ (e : Option (Option (List ℕ))). record y { rest = x.rest; expected = e }) expected

-- reads and then writes to the report touch nothing else
pub touches-read : (sources : List Source) (a b c : Told) (text : List ℕ) → ¬ Contains (ports_of sources) Report
    → OnlyReads sources a b → Adds b c Report text → TouchesOnly (ports_of sources) [] a c
touches-read sources a b c text apart reads writes =
    let report : b.ports Report ≡ a.ports Report = reads.others Report apart in
    record {
      files = writes.others.files ∙ reads.files;
      inputs = λ p at.
          let same : c.ports p ≡ b.ports p = writes.others.ports p (λ is. apart (subst (λ (x : Port). Contains (ports_of sources) x) is at)) in
          rw same (reads.inputs p at);
      outputs = λ p at. absurd (none_in p at);
      report = rw report at writes.only;
      others = λ p unread unmade not_report. writes.others.ports p not_report ∙ reads.others p unread;
      in_count = rw writes.still reads.later;
      out_count = rw reads.still at writes.later;
    }

-- the flag stays, where the reads are in order
pub in_order-after_reads : (sources : List Source) (a b c : Told) (text : List ℕ) → OnlyReads sources a b → Adds b c Report text → AreOrderlyOpens a sources → c.strayed ≡ a.strayed
in_order-after_reads sources a b c text reads writes orderly = writes.stray.kept (λ other. absurd (other refl)) ∙ reads.in_order orderly

-- writes to the report touch nothing else
pub touches-none : (a c : Told) (text : List ℕ) → Adds a c Report text → TouchesOnly [] [] a c
touches-none a c text writes = record {
  files = writes.others.files;
  inputs = λ p at. absurd (none_in p at);
  outputs = λ p at. absurd (none_in p at);
  report = writes.only;
  others = λ p unread unmade not_report. writes.others.ports p not_report;
  in_count = omega (arith, writes.still);
  out_count = writes.later;
}

-- where no file is made, more might have been
pub touches-more : (read made : List Port) (a c : Told) → ((p : Port) → Contains made p → ¬ Contains read p) → ((p : Port) → Contains made p → p ≢ Report)
    → TouchesOnly read [] a c → TouchesOnly read made a c
touches-more read made a c apart written touches = record {
  files = touches.files;
  inputs = touches.inputs;
  outputs = λ p at.
      let same : c.ports p ≡ a.ports p = touches.others p (apart p at) (none_in p) (written p at) in
      but_for_output-of (a.ports p) (c.ports p) (ap (λ (x : PortTold). x.rest) same) (ap (λ (x : PortTold). x.expected) same);
  report = touches.report;
  others = λ p unread unmade not_report. touches.others p unread (none_in p) not_report;
  in_count = touches.in_count;
  out_count = touches.out_count;
}
