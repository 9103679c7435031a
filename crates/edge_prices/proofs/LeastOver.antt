-- No edge weighs less than the least weight over its tile edge.
use Rattle.std.proofs.Common.{ℕ, ◌+◌, ◌*◌, ◌/◌, ◌≡◌, ◌≤◌, ◌<◌, List, slice_index, cond, ltb, ap, arith}
use Rattle.std.proofs.lemmas.Bool.{cond_both, ltb-true, ltb-false}
use Rattle.std.proofs.lemmas.Nat.{mul-le, div_below}
use Rattle.grid_base.specs.declared.piece.Piece.TheVariants.{Edge}
use Rattle.grid_base.specs.declared.size.Size.{Size}
use Rattle.grid_base.specs.Numbers.{layers, vertices}
use Rattle.grid_graph.specs.declared.grid.Grid.{Grid}
use Rattle.grid_graph.specs.declared.ground.Ground.{Ground}
use Rattle.grid_graph.specs.Flat.{tiles, tile_edge_of, AreLeastOver}
use Rattle.grid_graph.specs.Grids.{size_of, demand_on, edge_numbers}
use Rattle.grid_graph.specs.Limits.{max_demand, max_weight}
use Rattle.grid_graph.proofs.TileSteps.{some_tiles, tile_edge-number}
use Rattle.edge_prices.specs.PieceLists.{pieces_with}
use Rattle.edge_prices.specs.Limits.{max_price}
use Rattle.edge_prices.specs.TilePrices.{no_price, open_price, price_on, least_price_over, IsLeastDemand, weight_at, least_weight_over}
use Rattle.edge_prices.specs.Weights.{is_open, edge_cost, piece_weight, wirelength_price, ArePrices}
use Rattle.edge_prices.proofs.GroundPieces.{allowed_number, pieces_with-Weighs}
use Rattle.edge_prices.proofs.Least.{least-le}

tile_edge-layer : (s : Size) (e : ℕ) → e < 2 * vertices s → e / (2 * tiles s) < layers s
tile_edge-layer s e number = div_below e (2 * tiles s) (layers s) (omega (arith, some_tiles s)) (omega (arith, number))

-- the edge on a layer over a tile edge has a number of the grid
pub number-on : (s : Size) (layer e : ℕ) → layer < layers s → e < 2 * tiles s → layer * (2 * tiles s) + e < 2 * vertices s
number-on s layer e below number = omega (arith, mul-le (layer + 1) (2 * tiles s) (layers s) (2 * tiles s) (omega arith) (omega arith))

-- no weight over a tile edge is above the limit
weight_at-within : (price demand wire : ℕ) → demand ≤ max_demand → wire ≤ max_price → weight_at price demand wire ≤ max_weight
weight_at-within price demand wire small paid =
    cond_both (ltb max_price price) max_weight (4 * (price * demand + wire) + 1) (λ w. w ≤ max_weight)
    (λ _. omega arith)
    (λ cheap. omega (arith, mul-le price demand max_price max_demand (ltb-false _ _ cheap) small))

-- an open edge weighs at least what its price over the tile edge says
weight_at-below : (price demand wire paid used : ℕ) → price ≤ paid → paid ≤ max_price → demand ≤ used → weight_at price demand wire ≤ 4 * (paid * used + wire) + 1
weight_at-below price demand wire paid used cheap within uses =
    cond_both (ltb max_price price) max_weight (4 * (price * demand + wire) + 1) (λ w. w ≤ 4 * (paid * used + wire) + 1)
    (λ above. absurd (omega (arith, ltb-true _ _ above)))
    (λ _. omega (arith, mul-le price demand paid used cheap uses))

-- the least price over an edge's tile edge is at most its own
tile_price-le : (g : Grid) (prices : List ℕ) (e : ℕ) → e < edge_numbers g → least_price_over g prices (tile_edge_of (size_of g) e) ≤ open_price g prices e
tile_price-le g prices e number =
    let s = size_of g in
    let low = least-le no_price (price_on g prices (tile_edge_of s e)) (layers s) (e / (2 * tiles s)) (tile_edge-layer s e number) in
    omega (arith, low, ap (open_price g prices) (tile_edge-number s e))

edge-over : (g : Grid) (width : ℕ) (prices : List ℕ) (demand e : ℕ) → ArePrices g prices → IsLeastDemand g width demand → e < edge_numbers g →
    least_weight_over g prices demand (tile_edge_of (size_of g) e) ≤ piece_weight g width prices (Edge (record { 0 = e }))
edge-over g width prices demand e listed used number =
    let low = least_price_over g prices (tile_edge_of (size_of g) e) in
    let wire = wirelength_price g prices in
    let own = tile_price-le g prices e number in
    cond_both (is_open g e) (4 * (edge_cost g width prices e + wire) + 1) max_weight (λ w. weight_at low demand wire ≤ w)
    (λ opens.
    let is : open_price g prices e ≡ slice_index prices e = ap (λ b. cond b (slice_index prices e) no_price) opens in
    weight_at-below low demand wire (slice_index prices e) (demand_on g width e) (omega (arith, own, is)) (listed.within e) (used.below e number))
    (λ _. weight_at-within low demand wire used.within (listed.within (edge_numbers g)))

-- the weights of a ground's pieces are at least those over their tile edges
pub least_over : (g : Grid) (over : Ground) (width : ℕ) (prices : List ℕ) (demand : ℕ) → ArePrices g prices → IsLeastDemand g width demand →
    AreLeastOver (size_of g) (pieces_with g over (piece_weight g width prices)) (least_weight_over g prices demand)
least_over g over width prices demand listed used = record {
  below = λ e n weighs.
      let facts = (pieces_with-Weighs g over (piece_weight g width prices) (Edge e) n).0 weighs in
      omega (arith, edge-over g width prices demand e.0 listed used (allowed_number g over e facts.0), facts.1);
  within = λ e. weight_at-within (least_price_over g prices e) demand (wirelength_price g prices) used.within (listed.within (edge_numbers g));
}
