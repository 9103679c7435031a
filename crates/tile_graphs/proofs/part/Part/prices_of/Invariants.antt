use Rattle.std.proofs.Common.{◌≡◌, drop, fold, length, replicate}
use Rattle.tile_graphs.specs.Links.{with_link_price}
use Rattle.tile_graphs.proofs.part.Part.prices_of.Given as goal

-- there is a price for each link, and those of the tile edges left are still to be looked at
abbrev pub invariant-loop-edge : goal.invariant-loop-edge
invariant-loop-edge l = record {
  long : length l.prices.items ≡ length l.self.links.items;
  greatest : fold (with_link_price l.tile_prices) l.prices.items (drop l.edge-index l.self.edges.items)
      ≡ fold (with_link_price l.tile_prices) (replicate (length l.self.links.items) 0) l.self.edges.items;
}
