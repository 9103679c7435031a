-- Edits whose numbers are in their ranges.
use Rattle.std.specs.Prelude.{ℕ, ◌≤◌, List, All, length}
use Rattle.grid_graph.specs.Layouts.{IsPosition}
use Rattle.grid_graph.specs.Limits.{max_demand, max_id, max_pins}
use Rattle.edit_text.specs.declared.edit.Edit.{Edit}
use Rattle.edit_text.specs.declared.edit.Edit.TheVariants.{Drop, Add, Change}
use Rattle.edit_text.specs.declared.edit.Pin.{Pin}

-- no number of the pin is further from zero than the numbers of a design
pub record IsPinInRange (pin : Pin) : Type 0 where
  pub x : IsPosition pin.x
  pub y : IsPosition pin.y
  pub layer : IsPosition pin.layer

-- such pins, no more than a design may have
pub record ArePinsInRange (pins : List Pin) : Type 0 where
  pub count : length pins ≤ max_pins
  pub each : All IsPinInRange pins

-- what an edit says of a net: its id has 32 bits, its width is at most the greatest demand, and its pins are in their range
pub record IsNetInRange (id width : ℕ) (pins : List Pin) : Type 0 where
  pub named : id ≤ max_id
  pub wide : width ≤ max_demand
  pub placed : ArePinsInRange pins

-- the numbers of an edit are in their ranges
abbrev pub IsEditInRange : Edit → Type 0
IsEditInRange (Drop id) = id ≤ max_id
IsEditInRange (Add name id width pins) = IsNetInRange id width pins
IsEditInRange (Change id width pins) = IsNetInRange id width pins
