-- What a fault of a text says.
use Rattle.std.specs.Prelude.{ℕ, List, [], ◌∷◌, Option, None, Some}
use Rattle.design_tokens.specs.declared.input_fault.InputFault.{InputFault}
use Rattle.design_tokens.specs.declared.input_fault.InputFault.TheVariants.{Syntax, Range, TooLong, GridSize, TileSize, CapacityLimit, WidthLimit, NetLimit, DuplicateId, PinOutside, PinLayer, AdjustmentPlace}
use Rattle.design_tokens.specs.declared.wanted.Wanted.{Wanted}

-- its number
abbrev pub input_fault_number : InputFault → ℕ
input_fault_number (Syntax at wanted) = 11
input_fault_number (Range at) = 12
input_fault_number TooLong = 13
input_fault_number (GridSize at) = 14
input_fault_number (TileSize at) = 15
input_fault_number (CapacityLimit at) = 16
input_fault_number (WidthLimit at) = 17
input_fault_number (NetLimit at) = 18
input_fault_number (DuplicateId at id) = 19
input_fault_number (PinOutside at id pin) = 20
input_fault_number (PinLayer at id pin) = 21
input_fault_number (AdjustmentPlace at index) = 22

-- what it names by number: its place, and then what stands at fault there
abbrev pub fields_of : InputFault → List ℕ
fields_of (Syntax at wanted) = at ∷ []
fields_of (Range at) = at ∷ []
fields_of TooLong = []
fields_of (GridSize at) = at ∷ []
fields_of (TileSize at) = at ∷ []
fields_of (CapacityLimit at) = at ∷ []
fields_of (WidthLimit at) = at ∷ []
fields_of (NetLimit at) = at ∷ []
fields_of (DuplicateId at id) = at ∷ id ∷ []
fields_of (PinOutside at id pin) = at ∷ id ∷ pin ∷ []
fields_of (PinLayer at id pin) = at ∷ id ∷ pin ∷ []
fields_of (AdjustmentPlace at index) = at ∷ index ∷ []

-- the word that was wanted, where one was
abbrev pub wanted_of : InputFault → Option Wanted
wanted_of (Syntax at wanted) = Some wanted
wanted_of _ = None
