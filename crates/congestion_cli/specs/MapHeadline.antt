-- The headline, in one page: what comes of a design, of routes and of the certificate of a cut, and what a run has to leave of it.
--
-- Where the words lead: `AreReadRoutes` of `judge_cli` is what the texts say, `AreRoutes` of `route_judge` that nothing can be
-- objected to them, `AreLoadsOf` there the loads of all edges by them, `edge_cell` of `congestion_cells` the cell of a tile edge by
-- these loads, and `picture_text` and `table_text` of `congestion_picture` the texts.
use Rattle.std.specs.Prelude.{◌≡◌, ◌≤◌, ◌-◌, ℕ, Bool, true, false, List, [], ◌∷◌, ◌++◌, length, Option, Some, None, Vec, slice_index}
use Rattle.std.specs.declared.alloc.Global.{Global}
use Rattle.cert_text.specs.declared.cert.Cert.{Cert}
use Rattle.command_runs.specs.CommandRun.{RunOutcome}
use Rattle.command_words.specs.MapLine.{MapFormTask, MapTask, PictureTask, TableTask}
use Rattle.congestion_cells.specs.declared.cell.Cell.{Cell}
use Rattle.congestion_cells.specs.declared.direction.Direction.{Direction}
use Rattle.congestion_cells.specs.declared.direction.Direction.TheVariants as directions
use Rattle.congestion_cells.specs.declared.shown_layers.ShownLayers.{ShownLayers}
use Rattle.congestion_cells.specs.Cells.{edge_cell}
use Rattle.congestion_cells.specs.CutEdges.{cut_edges}
use Rattle.congestion_cells.specs.Rasters.{map_cells, side_for}
use Rattle.congestion_cells.specs.TileUses.{all_layers, one_layer}
use Rattle.congestion_picture.specs.declared.cell_map.CellMap.{CellMap}
use Rattle.congestion_picture.specs.declared.picture.Maps.{Maps}
use Rattle.congestion_picture.specs.declared.picture.Maps.TheVariants as maps
use Rattle.congestion_picture.specs.CellMaps.{IsCellMap}
use Rattle.congestion_picture.specs.declared.picture.Picture.{Picture as PictureShown}
use Rattle.gr_desk.specs.Told.{Told}
use Rattle.grid_base.specs.declared.size.Size.{Size}
use Rattle.grid_base.specs.Numbers.{layers}
use Rattle.grid_graph.specs.declared.design.Design.{Design}
use Rattle.grid_graph.specs.declared.grid.Grid.{Grid}
use Rattle.grid_graph.specs.declared.ground.Ground.{Ground}
use Rattle.grid_graph.specs.Grids.{size_of}
use Rattle.judge_cli.specs.AnswerLines.{reason_text, routes_report_text}
use Rattle.judge_cli.specs.MeasureRun.{AreReadRoutes, IsReportOf}
use Rattle.route_judge.specs.declared.counted.Counted.TheVariants.{Prices}
use Rattle.route_judge.specs.Counts.{listed_prices, open_count}
use Rattle.route_judge.specs.NetLoads.{AreLoadsOf}
use Rattle.route_judge.specs.Objections.{Finds, Objection, wrong_count}
use Rattle.route_judge.specs.Orders.{route_objections}
use Rattle.route_text.specs.declared.block.Block.{Block}
use Rattle.tree_set.specs.declared.measure.Measure.{Measure}
use Rattle.congestion_cli.specs.declared.drawing.Drawing.{Drawing}
use Rattle.congestion_cli.specs.declared.drawing.Drawing.TheVariants as drawings
use Rattle.congestion_cli.specs.declared.no_layer.LayerMissing.{LayerMissing}
use Rattle.congestion_cli.specs.declared.outcome.Outcome.{Outcome}
use Rattle.congestion_cli.specs.declared.outcome.Outcome.TheVariants.{Drawn, Objected, NoLayer}
use Rattle.congestion_cli.specs.Drawings.{IsDrawable, drawing_text}
use Rattle.congestion_cli.specs.MapSources.{IsCutRead, cut_of}
use Rattle.congestion_cli.specs.NoLayers.{no_layer_text}

-- ---- what is shown

-- the layers that are asked for; in words layers count from 1
abbrev pub shown_of : Size → Option ℕ → ShownLayers
shown_of s None = all_layers s
shown_of s (Some layer) = one_layer (layer - 1)

-- the layers with columns of their own, in a table
abbrev pub each_of : Bool → ShownLayers → ShownLayers
each_of true shown = shown
each_of false shown = record { first = 0; count = 0 }

-- a map in this direction shows these cells of tile edges, by the least number of tiles a side of a cell
pub record IsMapOf (s : Size) (direction : Direction) (cell : ℕ → Cell) (map : CellMap) : Type 0 where
  pub sized : map.raster.size ≡ s
  pub directed : map.raster.direction ≡ direction
  pub fine : map.raster.side ≡ side_for s
  pub cells : map.cells.items ≡ map_cells map.raster cell

-- one map for each direction, or one of the greater of both
abbrev pub AreMapsOf : Size → (ℕ → Cell) → Bool → Maps → Type 0
AreMapsOf s cell false (maps.Both along_x along_y) = IsMapOf s directions.X cell along_x × IsMapOf s directions.Y cell along_y
AreMapsOf s cell false (maps.Greater map) = ⊥
AreMapsOf s cell true (maps.Both along_x along_y) = ⊥
AreMapsOf s cell true (maps.Greater map) = IsMapOf s directions.Greater cell map

-- maps of a grid of this size, each with all of its cells
abbrev pub AreWholeMapsOf : Size → Maps → Type 0
AreWholeMapsOf s (maps.Both along_x along_y) =
    IsCellMap along_x × IsCellMap along_y × (along_x.raster.size ≡ s) × (along_y.raster.size ≡ s)
AreWholeMapsOf s (maps.Greater map) = IsCellMap map × (map.raster.size ≡ s)

-- the tile edges that the certificate prices, if there is one
abbrev pub IsCutOf : Grid → ShownLayers → Option Cert → Option (Vec ℕ Global) → Type 0
IsCutOf g shown None None = Unit {0}
IsCutOf g shown None (Some cut) = ⊥
IsCutOf g shown (Some cert) None = ⊥
IsCutOf g shown (Some cert) (Some cut) = cut.items ≡ cut_edges (size_of g) (slice_index (listed_prices g cert.prices)) shown

-- the picture shows the design where each edge has this load
pub record IsPictureOf (g : Grid) (load : ℕ → ℕ) (shown : ShownLayers) (greater : Bool) (cert : Option Cert) (m : Measure) (p : PictureShown) : Type 0 where
  pub measured : p.measure ≡ m
  pub layered : p.shown ≡ shown
  pub mapped : AreMapsOf (size_of g) (edge_cell g load shown) greater p.maps
  pub cut : IsCutOf g shown cert p.cut

-- the drawing is what is asked for, by these loads
abbrev pub IsDrawingOf : Design → List ℕ → ShownLayers → MapFormTask → Option Cert → Measure → Drawing → Type 0
IsDrawingOf d loads shown (PictureTask cut greater) cert m (drawings.Picture p) = IsPictureOf d.grid (slice_index loads) shown greater cert m p
IsDrawingOf d loads shown (PictureTask cut greater) cert m (drawings.Table design of_table layers each) = ⊥
IsDrawingOf d loads shown (TableTask layers) cert m (drawings.Picture p) = ⊥
IsDrawingOf d loads shown (TableTask by_layer) cert m (drawings.Table design of_table layers each) =
    (design ≡ d) × (of_table.items ≡ loads) × (layers ≡ shown) × (each ≡ each_of by_layer shown)

-- ---- what comes of it

-- what can be objected to routes, and then to the certificate of a cut: that it has not one price for each open edge
abbrev pub cut_objections : Design → Option Cert → List Objection
cut_objections d None = []
cut_objections d (Some cert) = wrong_count Prices (length cert.prices) (open_count d.grid) ∷ []

abbrev pub map_objections : Design → List Block → Option Cert → List Objection
map_objections d blocks cert = route_objections d blocks ++ cut_objections d cert

-- the design has the layer that is asked for
abbrev pub HasLayer : Size → Option ℕ → Type 0
HasLayer s None = Unit {0}
HasLayer s (Some layer) = layer ≤ layers s

-- it has not: it has so many
abbrev pub IsMissing : Size → Option ℕ → LayerMissing → Type 0
IsMissing s layer missing = (layer ≡ Some missing.asked) × (missing.there ≡ layers s) × (¬ HasLayer s layer)

-- a drawing of the loads of the routes where nothing can be objected and the layer is there, and the report of `measure`; the reason
-- of the first objection that applies; or that the layer isn't there
abbrev pub IsOutcomeOf : MapTask → Design → List Ground → List Block → Option Cert → Outcome → Type 0
IsOutcomeOf q d over blocks cert (Drawn drawing report) =
    Finds d (map_objections d blocks cert) None × HasLayer (size_of d.grid) q.layer × IsReportOf d over blocks None report
    × ((loads : List ℕ) × AreLoadsOf d blocks loads × IsDrawingOf d loads (shown_of (size_of d.grid) q.layer) q.form cert report.measure drawing)
IsOutcomeOf q d over blocks cert (Objected reason) = Finds d (map_objections d blocks cert) (Some reason)
IsOutcomeOf q d over blocks cert (NoLayer missing) = Finds d (map_objections d blocks cert) None × IsMissing (size_of d.grid) q.layer missing

-- where it is a drawing, it can be written
abbrev pub IsDrawableOutcome : Outcome → Type 0
IsDrawableOutcome (Drawn drawing report) = IsDrawable drawing
IsDrawableOutcome (Objected reason) = Unit {0}
IsDrawableOutcome (NoLayer missing) = Unit {0}

-- what comes of what the texts under the names say
pub record IsOutcome (q : MapTask) (told : Told) (outcome : Outcome) : Type 0 where
  pub design : Design
  pub grounds : List Ground
  pub blocks : List Block
  pub cert : Option Cert
  pub are_read : AreReadRoutes q.input q.routes told design grounds blocks
  pub cert_read : IsCutRead (cut_of q.form) told cert
  pub comes : IsOutcomeOf q design grounds blocks cert outcome

-- what it is written and reported as: the map, and the report; or the line of an objection, and no file
abbrev pub run_outcome : MapTask → Outcome → RunOutcome
run_outcome q (Drawn drawing report) = record { texts = drawing_text q.input drawing ∷ []; report = routes_report_text report; objects = false }
run_outcome q (Objected reason) = record { texts = []; report = reason_text reason; objects = true }
run_outcome q (NoLayer missing) = record { texts = []; report = no_layer_text missing; objects = true }

-- the texts are those of what comes of what was read
abbrev pub IsMapOutcome : MapTask → Told → RunOutcome → Type 0
IsMapOutcome q told left = (outcome : Outcome) × IsOutcome q told outcome × (left ≡ run_outcome q outcome)
