-- Counts along the lines of a grid.
use Rattle.std.specs.Prelude.{◌≡◌}
use Rattle.straight_runs.specs.declared.line_counts.LineCounts.{LineCounts}
use Rattle.grid_graph.specs.declared.grid.Grid.{Grid}
use Rattle.grid_graph.specs.declared.kind.Kind.{Kind}

-- these count the grid's edges of a kind
pub record AreCountsOf (g : Grid) (k : Kind) (counts : LineCounts) : Type 0 where
  pub of_grid : counts.grid.now ≡ g
  pub of_kind : counts.kind ≡ k
