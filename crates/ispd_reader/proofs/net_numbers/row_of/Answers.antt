use Rattle.std.proofs.Common.{◌≡◌, rules}
use Rattle.grid_base.proofs.Extents.{rows_within}
use Rattle.grid_base.specs.Numbers.{rows}
use Rattle.grid_graph.specs.Grids.{size_of, layout_of}
use Rattle.grid_graph.specs.Tiles.{tile_index}
use Rattle.grid_graph.proofs.Positions.{tile_below}
use Rattle.ispd_reader.proofs.net_numbers.row_of.Goals as goal

pub tile_index-requires-clause-many : goal.tile_index-requires-clause-many
tile_index-requires-clause-many c = rw (c.rows.ensures, c.size.ensures) (rows_within _ _ _ (size_of c.args.grid.now).within)

pub returns-clause-below : goal.returns-clause-below
returns-clause-below c =
    let grid = c.args.grid.now in
    let of = layout_of grid in
    let e : c.tile_index.result ≡ tile_index of.origin.1 of.tile.1 (rows of.size) c.args.y.value = search rules in
    rw e (tile_below of.origin.1 of.tile.1 (rows of.size) c.args.y.value grid.limits.tile_height.low of.size.within.has_row)
