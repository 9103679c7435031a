-- What a fault of an edit says.
use Rattle.std.specs.Prelude.{ℕ, Option, None, Some}
use Rattle.eco_route.specs.declared.edit_fault.EditFault.{EditFault}
use Rattle.eco_route.specs.declared.edit_fault.EditFault.TheVariants.{UnknownId, DuplicateId, PinOutside, PinLayer, NetLimit, WidthLimit, Unreachable}

-- its number
abbrev pub edit_fault_number : EditFault → ℕ
edit_fault_number (UnknownId id) = 62
edit_fault_number (DuplicateId id) = 63
edit_fault_number (PinOutside pin) = 64
edit_fault_number (PinLayer pin) = 65
edit_fault_number NetLimit = 66
edit_fault_number WidthLimit = 67
edit_fault_number (Unreachable terminal) = 68

-- what it names: an id, a pin or a terminal
abbrev pub edit_fault_field : EditFault → Option ℕ
edit_fault_field (UnknownId id) = Some id
edit_fault_field (DuplicateId id) = Some id
edit_fault_field (PinOutside pin) = Some pin
edit_fault_field (PinLayer pin) = Some pin
edit_fault_field NetLimit = None
edit_fault_field WidthLimit = None
edit_fault_field (Unreachable terminal) = Some terminal
