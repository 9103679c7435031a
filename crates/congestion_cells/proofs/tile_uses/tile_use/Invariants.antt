use Rattle.std.proofs.Common.{◌≡◌, ◌≤◌, ◌*◌, ◌^◌, slice_index}
use Rattle.congestion_cells.specs.TileUses as words
use Rattle.congestion_cells.proofs.tile_uses.tile_use.Given as goal

-- the use by the layers so far
abbrev pub invariant-loop-i : goal.invariant-loop-i
invariant-loop-i l = record {
  found : l.found ≡ words.tile_use l.grid (slice_index l.loads) (record { first = l.shown.first; count = l.i }) l.tile_edge;
  load : l.found.load ≤ l.i * 2 ^ 64;
  capacity : l.found.capacity ≤ l.i * 2 ^ 18;
}
