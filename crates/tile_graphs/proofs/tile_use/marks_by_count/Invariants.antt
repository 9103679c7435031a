use Rattle.std.proofs.Common.{◌≡◌, false, fold, map, replicate}
use Rattle.tile_graphs.specs.Uses.{with_mark}
use Rattle.tile_graphs.proofs.tile_use.marks_by_count.Given as goal

-- the tile edges so far are marked
abbrev pub invariant-loop-used : goal.invariant-loop-used
invariant-loop-used l = l.marks.items ≡ fold with_mark (replicate l.tile_edges false) (map (λ used. used.now) l.yielded)
