use Rattle.std.proofs.Common.{◌≡◌, slice_index}
use Rattle.std.specs.List.{filter, range_with_len}
use Rattle.congestion_cells.specs.CutEdges.{is_priced}
use Rattle.congestion_cells.proofs.priced.cut_edges.Given as goal

-- those of the tile edges so far
abbrev pub invariant-loop-e : goal.invariant-loop-e
invariant-loop-e l = l.cut.items ≡ filter (is_priced l.size (slice_index l.prices) l.shown) (range_with_len 0 l.e)
