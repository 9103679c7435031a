-- Routed designs.
use Rattle.std.specs.Prelude.{ℕ, ◌≡◌, List, None, slice_set}
use Rattle.std.specs.List.{remove}
use Rattle.grid_base.specs.declared.piece.Piece.{Piece}
use Rattle.grid_graph.specs.declared.design.Design.{Design}
use Rattle.grid_graph.specs.declared.net_spec.NetSpec.{NetSpec}
use Rattle.sharing_runs.specs.NetSteps.{IsStep}
use Rattle.tree_set.specs.Loads.{load_list}
use Rattle.eco_route.specs.Scales.{eco_scale}

-- a design, and a set for each of its nets
pub record RoutedDesign : Type 0 where
  pub design : Design
  pub sets : List (List Piece)

-- nothing changed that a contract tells of
pub record IsUnchanged (old new : RoutedDesign) : Type 0 where
  pub grid : new.design.grid ≡ old.design.grid
  pub nets : new.design.nets ≡ old.design.nets
  pub sets : new.sets ≡ old.sets

-- the net stands at this place now, with a step from the load of all others, and all others are as they were
pub record IsRewired (place : ℕ) (net : NetSpec) (old new : RoutedDesign) : Type 0 where
  pub tree : List Piece
  pub step : IsStep old.design.grid net (load_list old.design.grid (remove old.design.nets place) (remove old.sets place)) eco_scale None tree
  pub grid : new.design.grid ≡ old.design.grid
  pub nets : new.design.nets ≡ slice_set old.design.nets place net
  pub sets : new.sets ≡ slice_set old.sets place tree
