use Rattle.grid_base.proofs.Extents.{rows_within}
use Rattle.grid_graph.specs.Grids.{size_of}
use Rattle.grid_graph.proofs.grid.Grid.tile_of.Goals as goal

-- a grid has no more rows than vertices
pub tile_index-requires-2-clause-many : goal.tile_index-requires-2-clause-many
tile_index-requires-2-clause-many c = rw c.rows.ensures (rows_within _ _ _ (size_of c.args.self.now).within)
