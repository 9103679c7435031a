-- Eco steps, one after another, are edits that are made.
use Rattle.std.proofs.Common.{ℕ, List}
use Rattle.std.specs.Prelude.{take}
use Rattle.edit_text.specs.declared.edit.Edit.{Edit}
use Rattle.edit_text.specs.declared.edit.Edit.TheVariants.{Drop, Add, Change}
use Rattle.grid_base.specs.Lists.{At}
use Rattle.grid_base.specs.declared.piece.Piece.{Piece}
use Rattle.grid_graph.specs.declared.design.Design.{Design}
use Rattle.eco_route.specs.declared.edit_fault.EditFault.{EditFault}
use Rattle.eco_route.specs.EcoSteps.{IsEcoStep}
use Rattle.eco_route.specs.EditRefusals.{IsRefusedFor}
use Rattle.eco_route.specs.EditedDesigns.{IsEditedDesign}
use Rattle.eco_route.specs.RoutedDesigns.{RoutedDesign}
use Rattle.eco_laws.specs.EcoChains.{AreEcoSteps, IsStepMade}
use Rattle.eco_laws.specs.EditChains.{AreMade, IsFirstRefused, IsMade}
use Rattle.eco_laws.proofs.EditChains.{leads-map}

-- an eco step makes its edit
step_edits : (edit : Edit) (d d' : Design) (trees trees' : List (List Piece)) → IsEcoStep edit d trees d' trees' → IsEditedDesign edit d d'
step_edits (Drop id) d d' trees trees' step = step.edited
step_edits (Add name id width pins) d d' trees trees' step = step.edited
step_edits (Change id width pins) d d' trees trees' step = step.edited

made_step : (edit : Edit) (old new : RoutedDesign) → IsStepMade edit old new → IsMade edit old.design new.design
made_step edit old new step = record { accepted = step.accepted; edited = step_edits edit old.design new.design old.sets new.sets step.step }

-- a list of eco steps makes its edits
pub steps_make : (edits : List Edit) (old new : RoutedDesign) → AreEcoSteps edits old new → AreMade edits old.design new.design
steps_make edits old new steps = leads-map IsStepMade IsMade (λ (r : RoutedDesign). r.design) made_step edits old new steps

-- an edit that is refused after the steps of those before it is the first that is refused
pub refused_after_steps : (edits : List Edit) (old reached : RoutedDesign) (k : ℕ) (edit : Edit) (f : EditFault) → At edits k edit → AreEcoSteps (take k edits) old reached → IsRefusedFor reached.design edit f
    → IsFirstRefused edits old.design k f
refused_after_steps edits old reached k edit f stands steps refused =
    record { edit = edit; stands = stands; reached = reached.design; made = steps_make (take k edits) old reached steps; refused = refused }
