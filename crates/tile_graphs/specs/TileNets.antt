-- Nets by their tiles.
use Rattle.std.specs.Prelude.{ℕ, ◌+◌, ◌≤◌, ◌&&◌, List, [], cond, leb, length, slice_range}
use Rattle.tile_graphs.specs.declared.tile_nets.TileNet.{TileNet}

-- a net has two tiles at least, which are listed
pub record HasTiles (tiles : List ℕ) (net : TileNet) : Type 0 where
  pub several : net.first + 2 ≤ net.past
  pub listed : net.past ≤ length tiles

-- the tiles of a net, or none where they are not listed
abbrev pub listed_tiles : List ℕ → TileNet → List ℕ
listed_tiles tiles net = cond (leb net.first net.past && leb net.past (length tiles)) (slice_range tiles net.first net.past) []
