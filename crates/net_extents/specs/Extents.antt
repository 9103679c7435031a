-- How far nets reach.
use Rattle.std.specs.Prelude.{◌≡◌, ◌+◌, ◌-◌, ◌^◌, List, min, slice_index_or}
use Rattle.std.specs.List.{AllZip}
use Rattle.grid_base.specs.declared.axis.Axis.TheVariants.{X, Y}
use Rattle.grid_base.specs.declared.vertex.Vertex.{Vertex}
use Rattle.grid_graph.specs.declared.design.Design.{Design}
use Rattle.grid_graph.specs.declared.grid.Grid.{Grid}
use Rattle.grid_graph.specs.Grids.{size_of}
use Rattle.net_extents.specs.declared.extent.Extent.{Extent}
use Rattle.net_extents.specs.declared.lowest_layers.LowestLayers.{LowestLayers}
use Rattle.net_extents.specs.declared.spread.Spread.{Spread}
use Rattle.net_extents.specs.LowestLayers.{IsLowestLayer}
use Rattle.net_extents.specs.Spreads as spreads
use Rattle.net_extents.specs.Spreads.{fewest_vias, IsSpreadOf}

-- the lowest layers on which wires of the grid can run
pub record AreLowestLayers (g : Grid) (lowest : LowestLayers) : Type 0 where
  pub along_x : IsLowestLayer g X lowest.along_x
  pub along_y : IsLowestLayer g Y lowest.along_y

-- what a spread says at these lowest layers
pub record IsExtentOfSpread (lowest : LowestLayers) (s : Spread) (e : Extent) : Type 0 where
  pub half_perimeter : e.half_perimeter ≡ spreads.half_perimeter s
  pub tile : e.tile ≡ slice_index_or s.tiles.items 0 0
  pub least : e.least ≡ min (spreads.half_perimeter s + fewest_vias lowest s) (2 ^ 64 - 1)

-- how far a net with these terminals reaches: what their spread says at the lowest layers of the grid
pub record IsExtentOf (g : Grid) (terminals : List Vertex) (e : Extent) : Type 0 where
  pub spread : Spread
  pub lowest : LowestLayers
  pub is_spread : IsSpreadOf (size_of g) terminals spread
  pub are_lowest : AreLowestLayers g lowest
  pub says : IsExtentOfSpread lowest spread e

-- one extent for each net, each that of the net's own terminals
abbrev pub AreExtents : Design → List Extent → Type 0
AreExtents d extents = AllZip (λ n e. IsExtentOf d.grid n.terminals e) d.nets extents
