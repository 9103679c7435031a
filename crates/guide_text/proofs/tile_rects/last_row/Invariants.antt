use Rattle.std.proofs.Common.{ℕ, ◌≤◌, ◌-◌}
use Rattle.grid_base.specs.Numbers.{rows}
use Rattle.guide_text.specs.TileRects.{IsTileRun}
use Rattle.guide_text.proofs.tile_rects.last_row.Given as goal

-- each row up to the last one has the run
abbrev pub invariant-loop-row : goal.invariant-loop-row
invariant-loop-row l = record {
  order : l.first_row ≤ l.row;
  each : (row : ℕ) → l.first_row ≤ row → row ≤ l.row → IsTileRun l.tiles.size l.tiles.numbers.items l.layer row l.first_col l.last_col;
}

abbrev pub decreases-loop-row : goal.decreases-loop-row
decreases-loop-row l = rows l.tiles.size - l.row
