-- Paths: the cells that a paint covers, run by run. Coordinates go downwards in a picture, and rows upwards.
use Rattle.std.specs.Prelude.{ℕ, ◌+◌, ◌-◌, ◌*◌, List, [], ◌++◌, codes, cond, decimal, flat_map}
use Rattle.std.specs.List.{range_with_len}
use Rattle.congestion_cells.specs.Rasters.{columns, rows}
use Rattle.congestion_picture.specs.declared.cell_map.CellMap.{CellMap}
use Rattle.congestion_picture.specs.declared.paint.Paint.{Paint}
use Rattle.congestion_picture.specs.CellMaps.{begins, has_frame, is_painted, painted_from, scale}

-- how many cells of a row are painted side by side from a column on
abbrev pub run_in : CellMap → Paint → ℕ → ℕ → ℕ
run_in map paint row column = painted_from (is_painted map paint row) column (columns map.raster - column)

-- where a row stands, counted from the top
abbrev pub down : CellMap → ℕ → ℕ
down map row = rows map.raster - 1 - row

-- a stroke through so many cells, where a cell is one unit
abbrev pub stroke_text : ℕ → ℕ → ℕ → List ℕ
stroke_text column row count = codes "M" ++ decimal column ++ codes " " ++ decimal row ++ codes "h" ++ decimal count

-- a frame around so many cells, where a cell is so many units
abbrev pub frame_text : ℕ → ℕ → ℕ → ℕ → List ℕ
frame_text size column row count =
    codes "M" ++ decimal (column * size) ++ codes " " ++ decimal (row * size)
    ++ codes "h" ++ decimal (count * size + 2) ++ codes "v" ++ decimal (size + 2) ++ codes "h-" ++ decimal (count * size + 2) ++ codes "z"

-- what shows the run that begins at a place
abbrev pub run_text : CellMap → Paint → ℕ → ℕ → List ℕ
run_text map paint row column = cond (has_frame paint)
    (frame_text (scale map.raster) column (down map row) (run_in map paint row column))
    (stroke_text column (down map row) (run_in map paint row column))

-- nothing where none begins
abbrev pub cell_text : CellMap → Paint → ℕ → ℕ → List ℕ
cell_text map paint row column = cond (begins map paint row column) (run_text map paint row column) []

abbrev pub row_text : CellMap → Paint → ℕ → List ℕ
row_text map paint row = flat_map (cell_text map paint row) (range_with_len 0 (columns map.raster))

abbrev pub rows_text : CellMap → Paint → List ℕ
rows_text map paint = flat_map (row_text map paint) (range_with_len 0 (rows map.raster))

-- the path of a paint, with its look
abbrev pub path_text : CellMap → Paint → List ℕ → List ℕ
path_text map paint look = codes "<path " ++ look ++ codes " d=\"" ++ rows_text map paint ++ codes "\"/>\n"
