-- A grid that adjustments have changed.
use Rattle.std.specs.Prelude.{◌≡◌, ℕ, List, option_map, unwrap_or}
use Rattle.grid_graph.specs.declared.grid.Grid.{Grid}
use Rattle.grid_graph.specs.Grids.{layout_of, capacity}
use Rattle.ispd_reader.specs.declared.adjustment.Adjustment.{Adjustment as AdjustmentOfOne}
use Rattle.ispd_reader.specs.Adjustments.{Adjustment, level_where, last_level}

-- an adjustment, with its edge by number
abbrev pub adjustment_of : AdjustmentOfOne → Adjustment
adjustment_of a = record { edge = option_map (λ e. e.0) a.edge; level = a.level }

-- the edge that the adjustment names has its level; nothing else changes
pub record IsAdjustedBy (old new : Grid) (a : Adjustment) : Type 0 where
  pub levels : (e : ℕ) → capacity new e ≡ unwrap_or (level_where e a.edge a.level) (capacity old e)
  pub kept : layout_of new ≡ layout_of old

-- each edge of the grid has the level of its last adjustment, and else the capacity that it had; nothing else changes
pub record IsAdjusted (old new : Grid) (adjustments : List Adjustment) : Type 0 where
  pub levels : (e : ℕ) → capacity new e ≡ unwrap_or (last_level e adjustments) (capacity old e)
  pub kept : layout_of new ≡ layout_of old
