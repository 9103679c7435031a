-- What a certificate counts, and the prices of all edges by those that it lists.
use Rattle.std.specs.Prelude.{ℕ, Bool, true, false, List, map, slice_index, cond}
use Rattle.std.specs.List.{count_by, range_with_len}
use Rattle.grid_graph.specs.declared.grid.Grid.{Grid}
use Rattle.grid_graph.specs.declared.ground.Ground.{Ground}
use Rattle.grid_graph.specs.declared.ground.Ground.TheVariants.{Open, WithChoked}
use Rattle.grid_graph.specs.Grids.{edge_numbers}
use Rattle.edge_prices.specs.Weights.{is_open}

-- a net with this ground is forced
abbrev pub needs_choked_edges : Ground → Bool
needs_choked_edges Open = false
needs_choked_edges WithChoked = true

-- how many nets are forced
abbrev pub forced_count : List Ground → ℕ
forced_count over = count_by needs_choked_edges over

-- how many open edges have a number below n
abbrev pub open_below : Grid → ℕ → ℕ
open_below g n = count_by (is_open g) (range_with_len 0 n)

-- how many open edges there are
abbrev pub open_count : Grid → ℕ
open_count g = open_below g (edge_numbers g)

-- the price of an edge where the prices of the open edges are listed in rising order: 0 where the edge isn't open
abbrev pub listed_price : Grid → List ℕ → ℕ → ℕ
listed_price g listed e = cond (is_open g e) (slice_index listed (open_below g e)) 0

-- the prices of all edge numbers
abbrev pub listed_prices : Grid → List ℕ → List ℕ
listed_prices g listed = map (listed_price g listed) (range_with_len 0 (edge_numbers g))
