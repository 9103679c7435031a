use Rattle.std.proofs.Common.{◌∙◌, ℕ, Err, ap}
use Rattle.design_tokens.specs.declared.input_fault.InputFault.TheVariants.{Syntax}
use Rattle.ispd_reader.proofs.MachineSteps.{header_fault}
use Rattle.ispd_reader.proofs.machine_stage.MachineStage.end.Goals as goal

pub returns-in-Header-clause-refusal : goal.returns-in-Header-clause-refusal
returns-in-Header-clause-refusal c =
    rw c.in-Header.is (λ made r none long. header_fault c.in-Header.header made r _ (c.wanted.ensures r none) ∙ ap (λ (at : ℕ). Err (Syntax at c.wanted.result)) long)

pub returns-in-Body-clause-design : goal.returns-in-Body-clause-design
returns-in-Body-clause-design c = rw c.in-Body.is c.end.ensures.design

pub returns-in-Body-clause-refusal : goal.returns-in-Body-clause-refusal
returns-in-Body-clause-refusal c = rw c.in-Body.is c.end.ensures.refusal
