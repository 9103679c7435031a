-- A design after an edit.
use Rattle.std.specs.Prelude.{ℕ, ◌≡◌, List, [], ◌∷◌, ◌++◌, slice_set}
use Rattle.std.specs.List.{remove}
use Rattle.edit_text.specs.declared.edit.Edit.{Edit}
use Rattle.edit_text.specs.declared.edit.Edit.TheVariants.{Drop, Add, Change}
use Rattle.edit_text.specs.declared.edit.Pin.{Pin}
use Rattle.grid_base.specs.Lists.{At}
use Rattle.grid_graph.specs.declared.design.Design.{Design}
use Rattle.grid_graph.specs.declared.grid.Grid.{Grid}
use Rattle.grid_graph.specs.declared.net_spec.NetSpec.{NetSpec}
use Rattle.grid_graph.specs.Terms.{numbers, without_repeats}
use Rattle.eco_route.specs.PinPlaces.{pin_vertices}

-- the net with this id, name and width whose terminals are the vertices of these pins, without repeats
pub record IsNetOfPins (g : Grid) (id : ℕ) (name : List ℕ) (width : ℕ) (pins : List Pin) (n : NetSpec) : Type 0 where
  pub identified : n.id ≡ id
  pub called : n.name ≡ name
  pub wide : n.width ≡ width
  pub placed : numbers n.terminals ≡ without_repeats (pin_vertices g pins)

-- the net with this id is taken out of the list
pub record DropsNet (id : ℕ) (d d' : Design) : Type 0 where
  pub place : ℕ
  pub net : NetSpec
  pub stands : At d.nets place net
  pub identified : net.id ≡ id
  pub nets : d'.nets ≡ remove d.nets place
  pub grid : d'.grid ≡ d.grid

-- a net comes behind all others
pub record AddsNet (name : List ℕ) (id width : ℕ) (pins : List Pin) (d d' : Design) : Type 0 where
  pub net : NetSpec
  pub made : IsNetOfPins d.grid id name width pins net
  pub nets : d'.nets ≡ d.nets ++ net ∷ []
  pub grid : d'.grid ≡ d.grid

-- the net with this id keeps its place and its name, and gets another width and other terminals
pub record ChangesNet (id width : ℕ) (pins : List Pin) (d d' : Design) : Type 0 where
  pub place : ℕ
  pub before : NetSpec
  pub stands : At d.nets place before
  pub identified : before.id ≡ id
  pub net : NetSpec
  pub made : IsNetOfPins d.grid id before.name width pins net
  pub nets : d'.nets ≡ slice_set d.nets place net
  pub grid : d'.grid ≡ d.grid

-- the second design is the first one edited
abbrev pub IsEditedDesign : Edit → Design → Design → Type 0
IsEditedDesign (Drop id) d d' = DropsNet id d d'
IsEditedDesign (Add name id width pins) d d' = AddsNet name id width pins d d'
IsEditedDesign (Change id width pins) d d' = ChangesNet id width pins d d'
