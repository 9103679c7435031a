-- A map as it is drawn: how large its cells are, and which of them a path shows.
use Rattle.std.specs.Prelude.{◌≡◌, ℕ, zero, suc, ◌+◌, ◌-◌, ◌*◌, ◌==◌, ◌&&◌, ◌||◌, Bool, true, false, not, cond, length, max, [], slice_index_or}
use Rattle.std.specs.Int.{div_ceil}
use Rattle.congestion_cells.specs.declared.cell.Cell.{Cell}
use Rattle.congestion_cells.specs.declared.raster.Raster.{Raster}
use Rattle.congestion_cells.specs.Cells.{joined}
use Rattle.congestion_cells.specs.Rasters.{columns, rows}
use Rattle.congestion_picture.specs.declared.cell_map.CellMap.{CellMap}
use Rattle.congestion_picture.specs.declared.paint.Paint.{Paint}
use Rattle.congestion_picture.specs.declared.paint.Paint.TheVariants.{Class, Closed, PartlyClosed, Overfull}

-- ---- sizes, in units of the picture

-- how wide and high a cell is: the least even number by which the longer side of the map has 600 or more
abbrev pub scale : Raster → ℕ
scale r = 2 * div_ceil 300 (max (columns r) (rows r))

abbrev pub width : Raster → ℕ
width r = columns r * scale r

abbrev pub height : Raster → ℕ
height r = rows r * scale r

-- ---- the cells

-- there are as many cells as the raster has
abbrev pub IsCellMap : CellMap → Type 0
IsCellMap map = length map.cells.items ≡ columns map.raster * rows map.raster

-- the cell in a row and a column
abbrev pub cell_in : CellMap → ℕ → ℕ → Cell
cell_in map row column = slice_index_or map.cells.items (row * columns map.raster + column) (joined [])

-- the paint covers such a cell
abbrev pub covers : Paint → Cell → Bool
covers (Class class) cell = cell.class == class
covers Closed cell = cell.is_closed
covers PartlyClosed cell = cell.is_partly_closed
covers Overfull cell = cell.is_overfull

-- overfull cells have a frame, and all others a stroke
abbrev pub has_frame : Paint → Bool
has_frame (Class class) = false
has_frame Closed = false
has_frame PartlyClosed = false
has_frame Overfull = true

abbrev pub is_painted : CellMap → Paint → ℕ → ℕ → Bool
is_painted map paint row column = covers paint (cell_in map row column)

-- a run of painted cells in a row begins at this column: the cell is painted, and there is none before it or an unpainted one
abbrev pub begins : CellMap → Paint → ℕ → ℕ → Bool
begins map paint row column = is_painted map paint row column && (column == 0 || not (is_painted map paint row (column - 1)))

-- how many cells in a row are painted from a column on, of so many that are left there
abbrev pub painted_from : (ℕ → Bool) → ℕ → ℕ → ℕ
painted_from is column zero = zero
painted_from is column (suc left) = cond (is column) (suc (painted_from is (suc column) left)) zero
