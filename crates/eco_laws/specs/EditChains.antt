-- Edits of a design, one after another.
use Rattle.std.specs.Prelude.{ℕ, ◌≡◌, List, [], ◌∷◌, take}
use Rattle.edit_text.specs.declared.edit.Edit.{Edit}
use Rattle.grid_base.specs.Lists.{At}
use Rattle.grid_graph.specs.declared.design.Design.{Design}
use Rattle.eco_route.specs.declared.edit_fault.EditFault.{EditFault}
use Rattle.eco_route.specs.EditRefusals.{IsEditAccepted, IsRefusedFor}
use Rattle.eco_route.specs.EditedDesigns.{IsEditedDesign}

-- the edits lead from one state to another, each by a step
abbrev pub EditsLead : {S : Type 0} → (Edit → S → S → Type 0) → List Edit → S → S → Type 0
EditsLead Step [] s t = t ≡ s
EditsLead {S} Step (edit ∷ edits) s t = (middle : S) × Step edit s middle × EditsLead Step edits middle t

-- the second design is the first one, edited by these edits in order
abbrev pub AreEdited : List Edit → Design → Design → Type 0
AreEdited edits d d' = EditsLead IsEditedDesign edits d d'

-- nothing speaks against the edit, and the second design is the first one edited
pub record IsMade (edit : Edit) (d d' : Design) : Type 0 where
  pub accepted : IsEditAccepted d edit
  pub edited : IsEditedDesign edit d d'

-- the same of these edits in order
abbrev pub AreMade : List Edit → Design → Design → Type 0
AreMade edits d d' = EditsLead IsMade edits d d'

-- the edits before this one are made, and this one is refused for the fault
pub record IsFirstRefused (edits : List Edit) (d : Design) (index : ℕ) (fault : EditFault) : Type 0 where
  pub edit : Edit
  pub stands : At edits index edit
  pub reached : Design
  pub made : AreMade (take index edits) d reached
  pub refused : IsRefusedFor reached edit fault
