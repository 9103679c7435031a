-- One eco step more.
use Rattle.std.proofs.Common.{◌≡◌, ◌+◌, ℕ, suc, take, List, subst, arith}
use Rattle.edit_text.specs.declared.edit.Edit.{Edit}
use Rattle.grid_base.specs.Lists.{At}
use Rattle.eco_laws.specs.EcoChains.{AreEcoSteps, IsStepMade}
use Rattle.eco_laws.proofs.EditChains.{leads-next}
use Rattle.eco_route.specs.RoutedDesigns.{RoutedDesign}

pub steps-next : (edits : List Edit) (k : ℕ) (edit : Edit) (old between new : RoutedDesign) → At edits k edit → AreEcoSteps (take k edits) old between
    → IsStepMade edit between new → AreEcoSteps (take (k + 1) edits) old new
steps-next edits k edit old between new at steps step =
    let next : suc k ≡ k + 1 = omega arith in
    subst (λ (n : ℕ). AreEcoSteps (take n edits) old new) next (leads-next IsStepMade edits k edit old between new at steps step)
