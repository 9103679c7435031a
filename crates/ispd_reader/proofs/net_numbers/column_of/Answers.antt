use Rattle.std.proofs.Common.{◌≡◌, rules}
use Rattle.grid_base.proofs.Extents.{cols_within}
use Rattle.grid_base.specs.Numbers.{cols}
use Rattle.grid_graph.specs.Grids.{size_of, layout_of}
use Rattle.grid_graph.specs.Tiles.{tile_index}
use Rattle.grid_graph.proofs.Positions.{tile_below}
use Rattle.ispd_reader.proofs.net_numbers.column_of.Goals as goal

pub tile_index-requires-clause-many : goal.tile_index-requires-clause-many
tile_index-requires-clause-many c = rw (c.cols.ensures, c.size.ensures) (cols_within _ _ _ (size_of c.args.grid.now).within)

pub returns-clause-below : goal.returns-clause-below
returns-clause-below c =
    let grid = c.args.grid.now in
    let of = layout_of grid in
    let e : c.tile_index.result ≡ tile_index of.origin.0 of.tile.0 (cols of.size) c.args.x.value = search rules in
    rw e (tile_below of.origin.0 of.tile.0 (cols of.size) c.args.x.value grid.limits.tile_width.low of.size.within.has_col)
