-- What the machine of tokens still has to read of a design text.
use Rattle.std.specs.Prelude.{◌≡◌, Bool, List, [], Option, Some, None, Result, Ok, Err}
use Rattle.text_scan.specs.Reading.{tokens_left}
use Rattle.design_tokens.specs.declared.cut_token.CutToken.{CutToken}
use Rattle.design_tokens.specs.declared.input_error.InputError.{InputError}
use Rattle.design_tokens.specs.declared.input_fault.InputFault.{InputFault}
use Rattle.ispd_reader.specs.declared.machine.Machine.{Machine}
use Rattle.design_tokens.specs.declared.wanted.Wanted.{Wanted}
use Rattle.design_tokens.specs.Parsing.{Reading}
use Rattle.ispd_reader.specs.Adjustments.{Adjustment}
use Rattle.ispd_reader.specs.Designs.{Contents}
use Rattle.ispd_reader.specs.MachineStages.{left_at_stage, HasMade, awaits_name_at}
use Rattle.design_tokens.specs.Steps.{LeavesNext, RefusesNext, IsMissing}

-- what is left of it, and all that it says then; these adjustments were made
abbrev pub left_of : Machine → List Adjustment → Reading → Result Contents InputFault
left_of m made r = left_at_stage m.stage made r

-- these adjustments were made
abbrev pub Stands : Machine → List Adjustment → Type 0
Stands m made = HasMade m.stage made

-- the next token is a name
abbrev pub awaits_a_name : Machine → Bool
awaits_a_name m = awaits_name_at m.stage

-- the machine has taken the token, or it is refused
abbrev pub MovesOn : CutToken → Result (Unit {0}) InputError → Machine → List Adjustment → Machine → Type 0
MovesOn c (Ok done) old made new = (after : List Adjustment) × Stands new after × LeavesNext c (left_of old made) (left_of new after)
MovesOn c (Err e) old made new = RefusesNext c e (left_of old made)

-- where no token is left, this word is missing, or the text may end
abbrev pub AtEnd : Option Wanted → (Reading → Result Contents InputFault) → Type 0
AtEnd (Some w) left = IsMissing w left
AtEnd None left = (c : Contents) × ((r : Reading) → tokens_left r ≡ [] → left r ≡ Ok c)
