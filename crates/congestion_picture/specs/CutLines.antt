-- The lines of a cut: each across a tile edge, between the cells of its two tiles.
use Rattle.std.specs.Prelude.{ℕ, ◌+◌, ◌-◌, ◌*◌, ◌/◌, ◌%◌, ◌<◌, ◌==◌, List, ◌++◌, codes, cond, decimal, flat_map}
use Rattle.grid_base.specs.Numbers.{col_of, edge_start, row_of}
use Rattle.grid_graph.specs.Flat.{tiles}
use Rattle.congestion_cells.specs.declared.raster.Raster.{Raster}
use Rattle.congestion_cells.specs.Rasters.{rows}
use Rattle.congestion_picture.specs.CellMaps.{scale}

-- a number of a tile edge
abbrev pub IsTileEdge : Raster → ℕ → Type 0
IsTileEdge r e = e < 2 * tiles r.size

-- a line from a point on
abbrev pub line_from : ℕ → ℕ → List ℕ → ℕ → List ℕ
line_from x y towards size = codes "M" ++ decimal x ++ codes " " ++ decimal y ++ towards ++ decimal size

-- the column of the cell of the tile that an edge goes from, and its row as it is counted from the top
abbrev pub column_of : Raster → ℕ → ℕ
column_of r e = col_of r.size (edge_start e) / r.side

abbrev pub down_of : Raster → ℕ → ℕ
down_of r e = rows r - 1 - row_of r.size (edge_start e) / r.side

-- the line of a tile edge: upright at the right of its cell where it leads to the next column, and else level at the top
abbrev pub cut_line : Raster → ℕ → List ℕ
cut_line r e = cond (e % 2 == 0)
    (line_from ((column_of r e + 1) * scale r) (down_of r e * scale r) (codes "v") (scale r))
    (line_from (column_of r e * scale r) (down_of r e * scale r) (codes "h") (scale r))

-- the lines of a cut over a map
abbrev pub cut_text : Raster → List ℕ → List ℕ
cut_text r cut =
    codes "<path class=\"cut\" fill=\"none\" stroke=\"#009e73\" stroke-width=\"4\" d=\"" ++ flat_map (cut_line r) cut ++ codes "\"/>\n"
