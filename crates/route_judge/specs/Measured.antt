-- The measure of routes, and which nets go beyond their grounds.
use Rattle.std.specs.Prelude.{ℕ, ◌≡◌, Bool, true, false, List, Option}
use Rattle.std.specs.List.{count_by, list_any, zip}
use Rattle.grid_base.specs.declared.piece.Piece.{Piece}
use Rattle.grid_base.specs.declared.piece.Piece.TheVariants.{Edge, Via}
use Rattle.grid_graph.specs.declared.design.Design.{Design}
use Rattle.grid_graph.specs.declared.grid.Grid.{Grid}
use Rattle.grid_graph.specs.declared.ground.Ground.{Ground}
use Rattle.grid_graph.specs.declared.ground.Ground.TheVariants as grounds
use Rattle.grid_graph.specs.declared.kind.Kind.{Kind}
use Rattle.grid_graph.specs.declared.kind.Kind.TheVariants.{Open, Choked, Wall}
use Rattle.grid_graph.specs.Grids.{kind}
use Rattle.route_text.specs.declared.block.Block.{Block}
use Rattle.tree_set.specs.declared.measure.Measure.{Measure}
use Rattle.tree_set.specs.Loads.{load}
use Rattle.tree_set.specs.Measures.{overflow, wirelength, IsPeakWith}
use Rattle.route_judge.specs.NetSets.{AreSetsOf, AreJoining}

-- the measure of one set per net, with or without a budget
pub record IsMeasureOf (d : Design) (budget : Option ℕ) (trees : List (List Piece)) (m : Measure) : Type 0 where
  pub of_overflow : m.overflow ≡ overflow d.grid (load d.grid d.nets trees)
  pub of_wirelength : m.wirelength ≡ wirelength trees
  pub of_peak : IsPeakWith d.grid (load d.grid d.nets trees) (wirelength trees) budget m.peak

-- an edge of this kind is choked
abbrev pub is_choked : Kind → Bool
is_choked Open = false
is_choked Choked = true
is_choked Wall = false

-- the piece is a choked edge that the ground doesn't allow
abbrev pub is_beyond : Grid → Ground → Piece → Bool
is_beyond g grounds.Open (Edge e) = is_choked (kind g e.0)
is_beyond g grounds.Open (Via v) = false
is_beyond g grounds.WithChoked p = false

-- how many nets have such a piece in their set, where there is one ground and one set per net
abbrev pub beyond_count : Grid → List Ground → List (List Piece) → ℕ
beyond_count g over trees = count_by (λ x. list_any (is_beyond g x.0) x.1) (zip over trees)

-- the sets that the blocks give the nets join the nets' terminals, this is their measure, and so many nets go beyond their grounds
pub record AreMeasured (d : Design) (over : List Ground) (blocks : List Block) (budget : Option ℕ) (m : Measure) (beyond : ℕ) : Type 0 where
  pub trees : List (List Piece)
  pub sets : AreSetsOf d blocks trees
  pub joining : AreJoining d trees
  pub measure : IsMeasureOf d budget trees m
  pub beyond_ground : beyond ≡ beyond_count d.grid over trees
