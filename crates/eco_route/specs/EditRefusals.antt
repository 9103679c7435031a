-- Why an edit is refused: the lowest number that applies, and within it the first pin or terminal.
use Rattle.std.specs.Prelude.{ℕ, ◌+◌, ◌≡◌, ◌≤◌, ◌<◌, ◌⊎◌, List, length, None, Some}
use Rattle.std.specs.List.{position, remove, sum_by}
use Rattle.edit_text.specs.declared.edit.Edit.{Edit}
use Rattle.edit_text.specs.declared.edit.Edit.TheVariants.{Drop, Add, Change}
use Rattle.edit_text.specs.declared.edit.Pin.{Pin}
use Rattle.grid_base.specs.Lists.{At}
use Rattle.grid_graph.specs.declared.design.Design.{Design}
use Rattle.grid_graph.specs.declared.grid.Grid.{Grid}
use Rattle.grid_graph.specs.declared.net_spec.NetSpec.{NetSpec}
use Rattle.grid_graph.specs.Grids.{IsNetWidth}
use Rattle.grid_graph.specs.Grounds.{IsCutOff}
use Rattle.grid_graph.specs.Limits.{max_nets, max_pins}
use Rattle.eco_route.specs.declared.edit_fault.EditFault.{EditFault}
use Rattle.eco_route.specs.declared.edit_fault.EditFault.TheVariants.{UnknownId, DuplicateId, PinOutside, PinLayer, NetLimit, WidthLimit, Unreachable}
use Rattle.eco_route.specs.declared.edit_refusal.EditRefusal.{EditRefusal}
use Rattle.eco_route.specs.declared.edit_refusal.EditRefusal.TheVariants.{Fault, NoMemory}
use Rattle.eco_route.specs.EditedDesigns.{IsNetOfPins}
use Rattle.eco_route.specs.PinPlaces.{is_outside, is_off_layers}

-- all terminals of nets
abbrev pub terminals_of : List NetSpec → ℕ
terminals_of nets = sum_by (λ n. length n.terminals) nets

-- each pin lies on the grid
pub record AreOnGrid (g : Grid) (pins : List Pin) : Type 0 where
  pub inside : position (is_outside g) pins ≡ None
  pub on_layers : position (is_off_layers g) pins ≡ None

-- there are so many nets with this one, the others have so many terminals, and it has these pins: no limit is exceeded
pub record AreWithinLimits (nets others : ℕ) (pins : List Pin) : Type 0 where
  pub nets_fit : nets ≤ max_nets
  pub pins_fit : others + length pins ≤ max_pins

-- no fault of pins, limits or width
pub record IsNetAccepted (g : Grid) (nets others width : ℕ) (pins : List Pin) : Type 0 where
  pub placed : AreOnGrid g pins
  pub within : AreWithinLimits nets others pins
  pub wide : IsNetWidth g width

-- a fault of pins, limits or width, where none of a lower number applies
abbrev pub IsWireFault : Grid → ℕ → ℕ → ℕ → List Pin → EditFault → Type 0
IsWireFault g nets others width pins (UnknownId id) = ⊥
IsWireFault g nets others width pins (DuplicateId id) = ⊥
IsWireFault g nets others width pins (PinOutside pin) = position (is_outside g) pins ≡ Some pin
IsWireFault g nets others width pins (PinLayer pin) = (position (is_outside g) pins ≡ None) × (position (is_off_layers g) pins ≡ Some pin)
IsWireFault g nets others width pins NetLimit = AreOnGrid g pins × ((max_nets < nets) ⊎ (max_pins < others + length pins))
IsWireFault g nets others width pins WidthLimit = AreOnGrid g pins × AreWithinLimits nets others pins × ¬ IsNetWidth g width
IsWireFault g nets others width pins (Unreachable terminal) = ⊥

-- no ground joins the net, where nothing else is wrong with it
pub record IsUnreachable (g : Grid) (nets others : ℕ) (name : List ℕ) (id width : ℕ) (pins : List Pin) (terminal : ℕ) : Type 0 where
  pub accepted : IsNetAccepted g nets others width pins
  pub net : NetSpec
  pub made : IsNetOfPins g id name width pins net
  pub cut_off : IsCutOff g net id terminal

-- what a net that is to come or to change is refused for
abbrev pub IsNetRefused : Grid → ℕ → ℕ → List ℕ → ℕ → ℕ → List Pin → EditFault → Type 0
IsNetRefused g nets others name id width pins f =
    IsWireFault g nets others width pins f ⊎ ((terminal : ℕ) × (f ≡ Unreachable terminal) × IsUnreachable g nets others name id width pins terminal)

-- the same of a refusal; want of memory has no cause
abbrev pub IsNetRefusal : Grid → ℕ → ℕ → List ℕ → ℕ → ℕ → List Pin → EditRefusal → Type 0
IsNetRefusal g nets others name id width pins (Fault f) = IsNetRefused g nets others name id width pins f
IsNetRefusal g nets others name id width pins NoMemory = Unit {0}

-- no net has the id
abbrev pub HasNoNet : List NetSpec → ℕ → Type 0
HasNoNet nets id = (place : ℕ) (n : NetSpec) → At nets place n → ¬ (n.id ≡ id)

-- this net, which stands there, has the id
pub record HasNet (nets : List NetSpec) (id place : ℕ) (net : NetSpec) : Type 0 where
  pub stands : At nets place net
  pub identified : net.id ≡ id

-- what an edit of this design is refused for
abbrev pub IsRefusedFor : Design → Edit → EditFault → Type 0
IsRefusedFor d (Drop id) f = HasNoNet d.nets id × (f ≡ UnknownId id)
IsRefusedFor d (Add name id width pins) f =
    ((place : ℕ) × (net : NetSpec) × HasNet d.nets id place net × (f ≡ DuplicateId id))
    ⊎ (HasNoNet d.nets id × IsNetRefused d.grid (length d.nets + 1) (terminals_of d.nets) name id width pins f)
IsRefusedFor d (Change id width pins) f =
    (HasNoNet d.nets id × (f ≡ UnknownId id))
    ⊎ ((place : ℕ) × (net : NetSpec) × HasNet d.nets id place net
    × IsNetRefused d.grid (length d.nets) (terminals_of (remove d.nets place)) net.name id width pins f)

-- the same of a refusal; want of memory has no cause
abbrev pub IsEditRefusal : Design → Edit → EditRefusal → Type 0
IsEditRefusal d e (Fault f) = IsRefusedFor d e f
IsEditRefusal d e NoMemory = Unit {0}

-- nothing speaks against an edit of this design
abbrev pub IsEditAccepted : Design → Edit → Type 0
IsEditAccepted d e = (f : EditFault) → ¬ IsRefusedFor d e f
