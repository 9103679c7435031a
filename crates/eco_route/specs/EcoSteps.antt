-- A routed design after an edit.
use Rattle.std.specs.Prelude.{ℕ, ◌≡◌, List, [], ◌∷◌, ◌++◌, None, slice_set}
use Rattle.std.specs.List.{remove}
use Rattle.edit_text.specs.declared.edit.Edit.{Edit}
use Rattle.edit_text.specs.declared.edit.Edit.TheVariants.{Drop, Add, Change}
use Rattle.edit_text.specs.declared.edit.Pin.{Pin}
use Rattle.grid_base.specs.declared.piece.Piece.{Piece}
use Rattle.grid_graph.specs.declared.design.Design.{Design}
use Rattle.sharing_runs.specs.NetSteps.{IsStep}
use Rattle.tree_set.specs.Loads.{load_list}
use Rattle.eco_route.specs.EditedDesigns.{DropsNet, AddsNet, ChangesNet}
use Rattle.eco_route.specs.Scales.{eco_scale}

-- the set of the net that goes is taken out
pub record IsDropStep (id : ℕ) (d : Design) (trees : List (List Piece)) (d' : Design) (trees' : List (List Piece)) : Type 0 where
  pub edited : DropsNet id d d'
  pub sets : trees' ≡ remove trees edited.place

-- the net that comes gets a step from the load of all others
pub record IsAddStep (name : List ℕ) (id width : ℕ) (pins : List Pin) (d : Design) (trees : List (List Piece)) (d' : Design) (trees' : List (List Piece)) : Type 0 where
  pub edited : AddsNet name id width pins d d'
  pub tree : List Piece
  pub step : IsStep d.grid edited.net (load_list d.grid d.nets trees) eco_scale None tree
  pub sets : trees' ≡ trees ++ tree ∷ []

-- the net that changes gets a step from the load of all others, in place of its set
pub record IsChangeStep (id width : ℕ) (pins : List Pin) (d : Design) (trees : List (List Piece)) (d' : Design) (trees' : List (List Piece)) : Type 0 where
  pub edited : ChangesNet id width pins d d'
  pub tree : List Piece
  pub step : IsStep d.grid edited.net (load_list d.grid (remove d.nets edited.place) (remove trees edited.place)) eco_scale None tree
  pub sets : trees' ≡ slice_set trees edited.place tree

-- the second design is the first one edited, and each net that the edit doesn't name keeps its set
abbrev pub IsEcoStep : Edit → Design → List (List Piece) → Design → List (List Piece) → Type 0
IsEcoStep (Drop id) d trees d' trees' = IsDropStep id d trees d' trees'
IsEcoStep (Add name id width pins) d trees d' trees' = IsAddStep name id width pins d trees d' trees'
IsEcoStep (Change id width pins) d trees d' trees' = IsChangeStep id width pins d trees d' trees'
