-- How little a piece weighs at least.
use Rattle.std.proofs.Common.{ℕ, ◌+◌, ◌*◌, ◌%◌, ◌==◌, cond, ltb, ◌≡◌, ◌≤◌, ◌<◌, List, slice_index, ap, arith}
use Rattle.std.proofs.lemmas.Bool.{cond_both, ltb-true}
use Rattle.std.proofs.lemmas.Nat.{mul-le}
use Rattle.grid_base.specs.declared.axis.Axis.{Axis}
use Rattle.grid_base.specs.declared.axis.Axis.TheVariants.{X, Y}
use Rattle.grid_base.specs.declared.piece.Piece.{Piece}
use Rattle.grid_base.specs.declared.piece.Piece.TheVariants.{Edge, Via}
use Rattle.grid_base.specs.declared.size.Size.{Size}
use Rattle.grid_base.specs.Numbers.{layers, edge_axis}
use Rattle.grid_graph.specs.declared.grid.Grid.{Grid}
use Rattle.grid_graph.specs.declared.ground.Ground.{Ground}
use Rattle.grid_graph.specs.Grids.{size_of, capacity, demand_on, Allows, edge_numbers}
use Rattle.grid_graph.specs.Limits.{max_demand, max_weight}
use Rattle.grid_graph.specs.declared.floors.Floors.{Floors}
use Rattle.edge_prices.specs.declared.least_prices.LeastPrices.{LeastPrices}
use Rattle.grid_graph.specs.Flat.{tiles}
use Rattle.grid_graph.specs.Floors.{floor_along, floor_of, AreFloors, AreTileFloors, AreWithin}
use Rattle.edge_prices.specs.Floors.{least_along, AreLeast}
use Rattle.edge_prices.specs.Limits.{max_price}
use Rattle.edge_prices.specs.PieceLists.{pieces_with, edge}
use Rattle.edge_prices.specs.TilePrices.{no_price, price_on, least_price_over, least_weight_over}
use Rattle.edge_prices.specs.Weights.{is_open, edge_cost, piece_weight, wirelength_price}
use Rattle.edge_prices.proofs.GroundPieces.{allowed_number, pieces_with-Weighs}
use Rattle.edge_prices.proofs.Least.{least-ge}
use Rattle.edge_prices.proofs.LeastOver.{number-on}

-- an edge weighs at least what it would at a lower price and a lower demand
edge-floor : (g : Grid) (width : ℕ) (prices : List ℕ) (e low demand : ℕ) →
    (0 < capacity g e → low ≤ slice_index prices e) → low ≤ max_price → demand ≤ demand_on g width e → demand ≤ max_demand → wirelength_price g prices ≤ max_price →
    4 * (low * demand + wirelength_price g prices) + 1 ≤ piece_weight g width prices (edge e)
edge-floor g width prices e low demand cheap low_small uses small wire =
    cond_both (is_open g e) _ _ (λ w. 4 * (low * demand + wirelength_price g prices) + 1 ≤ w)
    (λ opens. let least : low * demand ≤ edge_cost g width prices e = mul-le low demand (slice_index prices e) (demand_on g width e) (cheap (ltb-true _ _ opens)) uses in omega arith)
    (λ _. let most : low * demand ≤ max_price * max_demand = mul-le low demand max_price max_demand low_small small in omega arith)

-- the floors of a weighing, worked out from the least prices and the least demand
pub record AreFloorsAt (floors : Floors) (least : LeastPrices) (demand wire : ℕ) : Type 0 where
  pub x : floors.along_x ≡ 4 * (least.along_x * demand + wire) + 1
  pub y : floors.along_y ≡ 4 * (least.along_y * demand + wire) + 1
  pub via : floors.via ≡ 4 * (0 + wire) + 1

floor_along-is : (floors : Floors) (least : LeastPrices) (demand wire : ℕ) → AreFloorsAt floors least demand wire → (axis : Axis) →
    floor_along floors axis ≡ 4 * (least_along least axis * demand + wire) + 1
floor_along-is floors least demand wire are X = are.x
floor_along-is floors least demand wire are Y = are.y

piece-floor : (g : Grid) (over : Ground) (width : ℕ) (prices : List ℕ) (least : LeastPrices) (floors : Floors) (demand : ℕ) → AreLeast g prices least →
    ((e : ℕ) → e < edge_numbers g → demand ≤ demand_on g width e) → demand ≤ max_demand → wirelength_price g prices ≤ max_price →
    AreFloorsAt floors least demand (wirelength_price g prices) → (p : Piece) → Allows g over p → floor_of floors p ≤ piece_weight g width prices p
piece-floor g over width prices least floors demand low uses small wire are (Edge e) allowed =
    let number = allowed_number g over e allowed in
    rw (floor_along-is floors least demand (wirelength_price g prices) are (edge_axis e.0))
    (edge-floor g width prices e.0 (least_along least (edge_axis e.0)) demand (low.below e.0 number) (low.within (edge_axis e.0)) (uses e.0 number) small wire)
piece-floor g over width prices least floors demand low uses small wire are (Via v) allowed = let via = are.via in omega arith

-- no piece weighs less than its floor
pub floors-hold : (g : Grid) (over : Ground) (width : ℕ) (prices : List ℕ) (least : LeastPrices) (floors : Floors) (demand : ℕ) → AreLeast g prices least →
    ((e : ℕ) → e < edge_numbers g → demand ≤ demand_on g width e) → demand ≤ max_demand → wirelength_price g prices ≤ max_price →
    AreFloorsAt floors least demand (wirelength_price g prices) → AreFloors floors (pieces_with g over (piece_weight g width prices))
floors-hold g over width prices least floors demand low uses small wire are p n weighs =
    let facts = (pieces_with-Weighs g over (piece_weight g width prices) p n).0 weighs in
    rw facts.1 (piece-floor g over width prices least floors demand low uses small wire are p facts.0)

-- no floor along an axis is above the limit
axis-within : (least low demand wire : ℕ) → low ≡ 4 * (least * demand + wire) + 1 → least ≤ max_price → demand ≤ max_demand → wire ≤ max_price → low ≤ max_weight
axis-within least low demand wire is cheap small paid = omega (arith, mul-le least demand max_price max_demand cheap small)

pub floors-within : (floors : Floors) (least : LeastPrices) (demand wire : ℕ) → least.along_x ≤ max_price → least.along_y ≤ max_price → demand ≤ max_demand → wire ≤ max_price →
    AreFloorsAt floors least demand wire → AreWithin floors
floors-within floors least demand wire cheap_x cheap_y small paid are = record {
  x = axis-within least.along_x floors.along_x demand wire are.x cheap_x small paid;
  y = axis-within least.along_y floors.along_y demand wire are.y cheap_y small paid;
  vias = axis-within 0 floors.via demand wire (omega (arith, are.via)) (omega arith) small paid;
}

-- edges over one another run along one axis
axis-on : (s : Size) (layer e : ℕ) → edge_axis (layer * (2 * tiles s) + e) ≡ edge_axis e
axis-on s layer e = let same : (layer * (2 * tiles s) + e) % 2 ≡ e % 2 = omega arith in ap (λ n. cond (n == 0) X Y) same

-- nor does any edge over a tile edge weigh less
pub tile-floors : (g : Grid) (prices : List ℕ) (least : LeastPrices) (floors : Floors) (demand : ℕ) → AreLeast g prices least → demand ≤ max_demand → wirelength_price g prices ≤ max_price →
    AreFloorsAt floors least demand (wirelength_price g prices) → AreTileFloors (size_of g) floors (least_weight_over g prices demand)
tile-floors g prices least floors demand low small wire are e below =
    let s = size_of g in
    let axis = edge_axis e in
    let paid = wirelength_price g prices in
    let price = least_price_over g prices e in
    let is = floor_along-is floors least demand paid are axis in
    let cheap : least_along least axis ≤ price =
    least-ge no_price (price_on g prices e) (layers s) (least_along least axis) (omega (arith, low.within axis))
    (λ layer inside.
    let f = layer * (2 * tiles s) + e in
    let same : least_along least (edge_axis f) ≡ least_along least axis = ap (least_along least) (axis-on s layer e) in
    cond_both (is_open g f) (slice_index prices f) no_price (λ p. least_along least axis ≤ p)
    (λ opens. omega (arith, same, low.below f (number-on s layer e inside below) (ltb-true _ _ opens)))
    (λ _. omega (arith, low.within axis))) in
    cond_both (ltb max_price price) max_weight (4 * (price * demand + paid) + 1) (λ w. floor_along floors axis ≤ w)
    (λ _. axis-within (least_along least axis) (floor_along floors axis) demand paid is (low.within axis) small wire)
    (λ _. omega (arith, is, mul-le (least_along least axis) demand price demand cheap (omega arith)))
