-- What is left of a design text, by the part that is read.
use Rattle.std.specs.Prelude.{◌≡◌, Bool, false, List, [], Result, Ok, Err}
use Rattle.std.specs.Coded.{Unit-prop}
use Rattle.design_tokens.specs.declared.cut_token.CutToken.{CutToken}
use Rattle.design_tokens.specs.declared.input_error.InputError.{InputError}
use Rattle.design_tokens.specs.declared.input_fault.InputFault.{InputFault}
use Rattle.ispd_reader.specs.declared.machine_stage.MachineStage.{MachineStage}
use Rattle.ispd_reader.specs.declared.machine_stage.MachineStage.TheVariants.{Header, Body}
use Rattle.design_tokens.specs.Parsing.{Reading, ◌>>=◌}
use Rattle.ispd_reader.specs.HeaderLeft.{header_left}
use Rattle.ispd_reader.specs.NetsLeft.{awaits_name}
use Rattle.ispd_reader.specs.Adjustments.{Adjustment}
use Rattle.ispd_reader.specs.BodyLeft.{after_header, body_left, HasCapacities, IsReadyBody}
use Rattle.ispd_reader.specs.OneWay.{IsReadyBody-prop}
use Rattle.ispd_reader.specs.Designs.{Contents}
use Rattle.design_tokens.specs.Steps.{LeavesNext, RefusesNext}

-- what is left of it, and all that it says then; these adjustments were made
abbrev pub left_at_stage : MachineStage → List Adjustment → Reading → Result Contents InputFault
left_at_stage (Header h) made r = header_left h r >>= λ header. after_header header.0 header.1
left_at_stage (Body b) made r = body_left b made r

-- what was read fits the grid
abbrev pub IsReady : MachineStage → Type 0
IsReady (Header h) = Unit {0}
IsReady (Body b) = IsReadyBody b

-- it does so in one way
pub IsReady-prop : (stage : MachineStage) → IsProp (IsReady stage)
IsReady-prop (Header h) = Unit-prop
IsReady-prop (Body b) = IsReadyBody-prop b

-- the header is read
abbrev pub IsOfHeader : MachineStage → Type 0
IsOfHeader (Header h) = Unit {0}
IsOfHeader (Body b) = ⊥

-- these adjustments were made
abbrev pub HasMade : MachineStage → List Adjustment → Type 0
HasMade (Header h) made = made ≡ []
HasMade (Body b) made = HasCapacities b made

-- the next token is a name
abbrev pub awaits_name_at : MachineStage → Bool
awaits_name_at (Header h) = false
awaits_name_at (Body b) = awaits_name b.nets

-- the token is taken, and these adjustments were made then; or it is refused
abbrev pub StageMovesOn : CutToken → Result (Unit {0}) InputError → MachineStage → List Adjustment → MachineStage → Type 0
StageMovesOn c (Ok done) old made new = (after : List Adjustment) × HasMade new after × LeavesNext c (left_at_stage old made) (left_at_stage new after)
StageMovesOn c (Err e) old made new = RefusesNext c e (left_at_stage old made)
