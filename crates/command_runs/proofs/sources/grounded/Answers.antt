use Rattle.std.proofs.Common.{◌≡◌, List, ℕ, subst, refl, inl, inr}
use Rattle.std.specs.Prelude.{◌⊎◌}
use Rattle.gr_desk.specs.declared.port.Port.TheVariants.{In}
use Rattle.grid_graph.specs.declared.design.Design.{Design}
use Rattle.grid_graph.specs.declared.ground_error.GroundError.{GroundError}
use Rattle.grid_graph.specs.declared.ground_error.GroundError.TheVariants as ground_errors
use Rattle.grid_graph.specs.Grounds.{IsFirstGroundError}
use Rattle.ispd_reader.specs.Designs.{IsDesignOfText}
use Rattle.command_runs.specs.declared.refusal.Refusal.{Refusal}
use Rattle.command_runs.specs.declared.refusal.Refusal.TheVariants.{NoMemory}
use Rattle.command_runs.specs.Refusals.{IsRefusedAt}
use Rattle.command_runs.specs.Steps.{of_ground_error}
use Rattle.command_runs.proofs.Outcomes.{same_refusal}
use Rattle.command_runs.proofs.sources.grounded.Goals as goal

-- a design without grounds is refused for its first net that is cut off, or for want of memory
refused_for_grounds : (text : List ℕ) (d : Design) (e : GroundError) → IsDesignOfText text d → IsFirstGroundError d.grid d.nets e → IsRefusedAt In text (of_ground_error e) ⊎ (of_ground_error e ≡ NoMemory)
refused_for_grounds text d (ground_errors.Unreachable net) named cause = inl (d, named, cause)
refused_for_grounds text d ground_errors.NoMemory named cause = inr refl

-- what holds of the refusal that was made holds of the one that was answered
abbrev IsTextRefusal : List ℕ → Refusal → Type 0
IsTextRefusal text r = IsRefusedAt In text r ⊎ (r ≡ NoMemory)

pub returns-in_err-of-clause-refused : goal.returns-in_err-of-clause-refused
returns-in_err-of-clause-refused c = λ r is.
    let d = c.in_ok-design.design in
    let named : IsDesignOfText c.args.bytes.now d = c.in_ok-design.ensures.design in
    let made : of_ground_error c.in_err-of.field-0.0 ≡ r = same_refusal c.from_residual-in_err-of.result _ r c.from_residual-in_err-of.ensures.1 is in
    subst (IsTextRefusal c.args.bytes.now) made
    (refused_for_grounds c.args.bytes.now d c.in_err-of.field-0.0 named c.in_err-of.ensures.cause)
