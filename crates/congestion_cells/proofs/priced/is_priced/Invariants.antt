use Rattle.std.proofs.Common.{◌≡◌, false, slice_index}
use Rattle.congestion_cells.specs.CutEdges as words
use Rattle.congestion_cells.proofs.priced.is_priced.Given as goal

-- none of the layers so far
abbrev pub invariant-loop-i : goal.invariant-loop-i
invariant-loop-i l = words.is_priced l.fn.size (slice_index l.prices) (record { first = l.shown.first; count = l.i }) l.tile_edge ≡ false
