-- The ports of files that are read, and of files that are made.
use Rattle.std.proofs.Common.{◌≢◌, List, [], ◌∷◌, Contains, sym, subst, inl, inr}
use Rattle.std.specs.Prelude.{IsTrue}
use Rattle.gr_desk.specs.declared.port.Port.{Port}
use Rattle.gr_desk.specs.declared.port.Port.TheVariants.{In, RoutesIn, CertIn, EditsIn, RoutesOut, CertOut, DesignOut, GuideOut, MapOut, Report}
use Rattle.gr_desk.specs.Ports.{is_input, is_output}
use Rattle.grid_base.proofs.Lists.{head_or_rest}
use Rattle.command_runs.specs.Sources.{Source, ports_of}
use Rattle.command_runs.proofs.Traces.{none_in}

-- files at ports that are read
abbrev pub AreInputs : List Source → Type 0
AreInputs [] = Unit {0}
AreInputs (s ∷ later) = IsTrue (is_input s.port) × AreInputs later

-- files at ports that are written, no two at the same
abbrev pub AreOutputs : List Source → Type 0
AreOutputs [] = Unit {0}
AreOutputs (f ∷ later) = IsTrue (is_output f.port) × (¬ Contains (ports_of later) f.port) × AreOutputs later

input_at : (read : List Source) (p : Port) → AreInputs read → Contains (ports_of read) p → IsTrue (is_input p)
input_at [] p inputs at = absurd (none_in p at)
input_at (s ∷ later) p inputs at = elim (head_or_rest s.port (ports_of later) p at) [
  | inl is ↦ subst (λ (x : Port). IsTrue (is_input x)) (sym is) inputs.0
  | inr rest ↦ input_at later p inputs.1 rest
]

output_at : (made : List Source) (p : Port) → AreOutputs made → Contains (ports_of made) p → IsTrue (is_output p)
output_at [] p outputs at = absurd (none_in p at)
output_at (f ∷ later) p outputs at = elim (head_or_rest f.port (ports_of later) p at) [
  | inl is ↦ subst (λ (x : Port). IsTrue (is_output x)) (sym is) outputs.0
  | inr rest ↦ output_at later p outputs.2 rest
]

-- no port is both
not_both : (p : Port) → IsTrue (is_input p) → IsTrue (is_output p) → ⊥
not_both In input output = cc
not_both RoutesIn input output = cc
not_both CertIn input output = cc
not_both EditsIn input output = cc
not_both RoutesOut input output = cc
not_both CertOut input output = cc
not_both DesignOut input output = cc
not_both GuideOut input output = cc
not_both MapOut input output = cc
not_both Report input output = cc

pub made_not_read : (read made : List Source) (p : Port) → AreInputs read → AreOutputs made → Contains (ports_of made) p
    → ¬ Contains (ports_of read) p
made_not_read read made p inputs outputs at here = not_both p (input_at read p inputs here) (output_at made p outputs at)

-- and the report is neither
pub report_not_read : (read : List Source) → AreInputs read → ¬ Contains (ports_of read) Report
report_not_read read inputs at = let wrong : IsTrue (is_input Report) = input_at read Report inputs at in cc

report_not_made : (made : List Source) → AreOutputs made → ¬ Contains (ports_of made) Report
report_not_made made outputs at = let wrong : IsTrue (is_output Report) = output_at made Report outputs at in cc

pub made_apart : (made : List Source) (p : Port) → AreOutputs made → Contains (ports_of made) p → p ≢ Report
made_apart made p outputs at is = report_not_made made outputs (subst (λ (x : Port). Contains (ports_of made) x) is at)
