-- What a fault of a number says.
use Rattle.std.specs.Prelude.{ℕ}
use Rattle.text_scan.specs.declared.number_fault.NumberFault.{NumberFault}
use Rattle.text_scan.specs.declared.number_fault.NumberFault.TheVariants.{NotNumber, OutOfRange, End}

-- the place in the text
abbrev pub fault_place : NumberFault → ℕ
fault_place (NotNumber at) = at
fault_place (OutOfRange at) = at
fault_place (End at) = at

-- the number of its kind
abbrev pub fault_number : NumberFault → ℕ
fault_number (NotNumber at) = 1
fault_number (OutOfRange at) = 2
fault_number (End at) = 3
