-- Prices of tile edges.
use Rattle.std.specs.Prelude.{ℕ, ◌^◌, Bool, true, List, [], ◌∷◌, cond, ltb, slice_index, slice_set}
use Rattle.hot_cuts.specs.declared.offers.TilePrice.{TilePrice}
use Rattle.tile_graphs.specs.declared.part.HotEdge.{HotEdge}

-- the price of a link; 0 where 32 bits can't hold it, and where there is none
abbrev pub link_price : List ℕ → ℕ → ℕ
link_price prices link = let price = slice_index prices link in cond (ltb price (2 ^ 32)) price 0

-- the price of a tile edge, which is that of its link, where it is above 0
abbrev pub offered_price : List ℕ → HotEdge → List TilePrice
offered_price prices edge =
    cond (ltb 0 (link_price prices edge.link)) (record { tile_edge = edge.tile_edge; price = link_price prices edge.link } ∷ []) []

-- with the price of a tile edge
abbrev pub with_price : List ℕ → TilePrice → List ℕ
with_price prices priced = slice_set prices priced.tile_edge priced.price

-- with the mark of a tile edge that has a price
abbrev pub with_mark_of : List Bool → TilePrice → List Bool
with_mark_of marks priced = slice_set marks priced.tile_edge true
