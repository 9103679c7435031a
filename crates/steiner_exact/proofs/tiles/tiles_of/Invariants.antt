use Rattle.std.proofs.Common.{◌≡◌, length, take}
use Rattle.grid_graph.specs.TilePieces.{tiles_of}
use Rattle.steiner_exact.proofs.tiles.tiles_of.Given as goal

-- the tiles of the terminals so far
abbrev pub invariant-loop-terminal : goal.invariant-loop-terminal
invariant-loop-terminal l = record {
  tiles : l.tiles.items ≡ tiles_of l.fn.size (take l.terminal-index l.terminals);
  long : length l.tiles.items ≡ l.terminal-index;
}
