-- Edits of a routed design, one after another.
use Rattle.std.specs.Prelude.{List}
use Rattle.edit_text.specs.declared.edit.Edit.{Edit}
use Rattle.eco_route.specs.EcoSteps.{IsEcoStep}
use Rattle.eco_route.specs.EditRefusals.{IsEditAccepted}
use Rattle.eco_route.specs.RoutedDesigns.{RoutedDesign}
use Rattle.eco_laws.specs.EditChains.{EditsLead}

-- nothing speaks against the edit, and it is an eco step from the first routed design to the second
pub record IsStepMade (edit : Edit) (old new : RoutedDesign) : Type 0 where
  pub accepted : IsEditAccepted old.design edit
  pub step : IsEcoStep edit old.design old.sets new.design new.sets

-- a list of eco steps, one for each edit in order
abbrev pub AreEcoSteps : List Edit → RoutedDesign → RoutedDesign → Type 0
AreEcoSteps edits old new = EditsLead IsStepMade edits old new
