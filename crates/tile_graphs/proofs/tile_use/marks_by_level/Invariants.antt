use Rattle.std.proofs.Common.{◌≡◌, map, take}
use Rattle.tile_graphs.specs.Fullness.{is_filled_to}
use Rattle.tile_graphs.proofs.tile_use.marks_by_level.Given as goal

-- the marks of the tile edges so far
abbrev pub invariant-loop-total : goal.invariant-loop-total
invariant-loop-total l = l.marks.items ≡ map (is_filled_to l.level) (take l.total-index l.totals)
