-- What is written to the file of a map.
use Rattle.std.specs.Prelude.{◌≡◌, ◌<◌, ◌+◌, ◌^◌, ℕ, List, length, slice_index}
use Rattle.grid_graph.specs.Grids.{edge_numbers, size_of}
use Rattle.congestion_cells.specs.TileUses.{AreLayersOf}
use Rattle.congestion_picture.specs.Pictures.{CanBePut, picture_text}
use Rattle.congestion_picture.specs.Tables.{table_text}
use Rattle.congestion_cli.specs.declared.drawing.Drawing.{Drawing}
use Rattle.congestion_cli.specs.declared.drawing.Drawing.TheVariants.{Picture, Table}

-- its text, for a design of this name
abbrev pub drawing_text : List ℕ → Drawing → List ℕ
drawing_text name (Picture p) = picture_text name p
drawing_text name (Table design loads shown each) = table_text design.grid (slice_index loads.items) shown each

-- it can be written
abbrev pub IsDrawable : Drawing → Type 0
IsDrawable (Picture p) = CanBePut p.maps p.cut × (p.shown.first + p.shown.count < 2 ^ 31)
IsDrawable (Table design loads shown each) =
    AreLayersOf (size_of design.grid) shown × AreLayersOf (size_of design.grid) each × (length loads.items ≡ edge_numbers design.grid)
