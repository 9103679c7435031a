-- Reading a design text token by token.
use Rattle.std.specs.Prelude.{Option, None, Some}
pub use Rattle.text_scan.specs.Reading.{Reading}
pub use Rattle.text_scan.specs.Parts.{◌>>=◌, or_refuse, refused_as, parts_at, Refuses, IsReadAs}
use Rattle.text_scan.specs.Parts as parts
use Rattle.design_tokens.specs.declared.input_fault.InputFault.{InputFault}
use Rattle.design_tokens.specs.declared.input_error.InputError.{InputError}
use Rattle.design_tokens.specs.declared.input_error.InputError.TheVariants.{Input, NoMemory}

-- what reading a part answers: its value and how far the text is read then, or the first refusal
abbrev pub InputRead : Type 0 → Type 0
InputRead Value = parts.Read Reading InputFault Value

-- the refusal that an error says; none for want of memory
abbrev pub refusal_in : InputError → Option InputFault
refusal_in (Input fault) = Some fault
refusal_in NoMemory = None
