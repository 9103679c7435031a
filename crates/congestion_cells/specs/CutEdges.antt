-- The tile edges that a price list prices.
use Rattle.std.specs.Prelude.{ℕ, ◌*◌, Bool, List, ltb}
use Rattle.std.specs.List.{filter, list_any, range_with_len}
use Rattle.grid_base.specs.declared.size.Size.{Size}
use Rattle.grid_graph.specs.Flat.{tiles}
use Rattle.congestion_cells.specs.declared.shown_layers.ShownLayers.{ShownLayers}
use Rattle.congestion_cells.specs.TileUses.{edges_over}

-- one of the edges over a tile edge has a price, of the layers that are shown
abbrev pub is_priced : Size → (ℕ → ℕ) → ShownLayers → ℕ → Bool
is_priced s price shown tile_edge = list_any (λ e. ltb 0 (price e)) (edges_over s shown tile_edge)

-- these tile edges, in rising order
abbrev pub cut_edges : Size → (ℕ → ℕ) → ShownLayers → List ℕ
cut_edges s price shown = filter (is_priced s price shown) (range_with_len 0 (2 * tiles s))
