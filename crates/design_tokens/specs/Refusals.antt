-- What the faults of a number are in this format.
use Rattle.text_scan.specs.declared.number_fault.NumberFault.{NumberFault}
use Rattle.text_scan.specs.declared.number_fault.NumberFault.TheVariants.{NotNumber, OutOfRange, End}
use Rattle.design_tokens.specs.declared.input_fault.InputFault.{InputFault}
use Rattle.design_tokens.specs.declared.input_fault.InputFault.TheVariants.{Syntax, Range}
use Rattle.design_tokens.specs.declared.wanted.Wanted.TheVariants as wanted

-- a token that is missing or no number, and a number out of range
abbrev pub refusal_of : NumberFault → InputFault
refusal_of (NotNumber at) = Syntax at wanted.Number
refusal_of (OutOfRange at) = Range at
refusal_of (End at) = Syntax at wanted.Number
