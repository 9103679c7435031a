-- Open tile edges with how full they are.
use Rattle.std.specs.Prelude.{ℕ, ◌-◌, ◌^◌, Bool, true, List, [], ◌∷◌, cond, ltb, slice_set}
use Rattle.std.specs.Ordering.{nat_cmp, ordering_then}
use Rattle.std.specs.declared.cmp.Ordering.{Ordering}
use Rattle.tile_graphs.specs.declared.tile_use.TileTotal.{TileTotal}
use Rattle.tile_graphs.specs.declared.tile_use.TileUse.{TileUse}
use Rattle.tile_graphs.specs.Fullness.{fullness_of}

-- tile edges have numbers of 32 bits, of which the greatest one is left out
abbrev pub most_tile_edges : ℕ
most_tile_edges = 2 ^ 32 - 1

-- a tile edge by its number, with how full it is, if it is open
abbrev pub use_of : ℕ × TileTotal → List TileUse
use_of numbered = cond (ltb 0 numbered.1.capacity) (record { fullness = record { 0 = fullness_of numbered.1 }; tile_edge = numbered.0 } ∷ []) []

-- the fuller one comes first, and of equally full ones that of the lower number
abbrev pub in_turn : TileUse → TileUse → Ordering
in_turn one other = ordering_then (nat_cmp other.fullness.0 one.fullness.0) (nat_cmp one.tile_edge other.tile_edge)

-- with the mark of a tile edge
abbrev pub with_mark : List Bool → TileUse → List Bool
with_mark marks used = slice_set marks used.tile_edge true
