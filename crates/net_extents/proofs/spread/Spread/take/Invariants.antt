use Rattle.std.proofs.Common.{◌≡◌, take}
use Rattle.std.specs.Prelude.{map, max, min}
use Rattle.std.specs.List.{fold}
use Rattle.grid_base.specs.Numbers.{col_of, layer_of, layers, row_of}
use Rattle.grid_graph.specs.Flat.{tile_of}
use Rattle.net_extents.proofs.spread.Spread.take.Given as goal

-- those of the terminals so far
abbrev pub invariant-loop-v : goal.invariant-loop-v
invariant-loop-v l = record {
  tiles : l.self.tiles.items ≡ map (λ v. tile_of l.size v.0) (take l.v-index l.terminals);
  cols : l.self.cols.items ≡ map (λ v. col_of l.size v.0) (take l.v-index l.terminals);
  rows : l.self.rows.items ≡ map (λ v. row_of l.size v.0) (take l.v-index l.terminals);
  low : l.self.low ≡ fold (λ low v. min low (layer_of l.size v.0)) (layers l.size) (take l.v-index l.terminals);
  high : l.self.high ≡ fold (λ high v. max high (layer_of l.size v.0)) 0 (take l.v-index l.terminals);
}
