-- How much a piece weighs at most.
use Rattle.std.proofs.Common.{ℕ, ◌*◌, ◌≤◌, ◌<◌, List, slice_index, arith}
use Rattle.std.proofs.lemmas.Bool.{cond_both}
use Rattle.std.proofs.lemmas.Nat.{mul-le}
use Rattle.grid_base.specs.declared.piece.Piece.{Piece}
use Rattle.grid_base.specs.declared.piece.Piece.TheVariants.{Edge, Via}
use Rattle.grid_base.specs.Numbers.{layer_of, edge_start}
use Rattle.grid_graph.specs.declared.grid.Grid.{Grid}
use Rattle.grid_graph.specs.declared.ground.Ground.{Ground}
use Rattle.grid_graph.specs.Grids.{size_of, demand_on, Allows, edge_numbers}
use Rattle.grid_graph.specs.Limits.{max_demand, max_weight}
use Rattle.grid_graph.specs.Weighed.{AreWithinLimit}
use Rattle.edge_prices.specs.PieceLists.{pieces_with, IsWeightList}
use Rattle.edge_prices.specs.Demands.{AreDemands}
use Rattle.edge_prices.specs.Limits.{max_price}
use Rattle.edge_prices.specs.Weights.{ArePrices, is_open, edge_cost, cost, piece_weight, wirelength_price}
use Rattle.edge_prices.proofs.GroundPieces.{allowed_number, pieces_with-Weighs, pieces_with-NoPieceTwice, pieces_with-WeighsOnlyPieces}

-- what a net pays for an edge at most
pub edge_cost-limit : (g : Grid) (width : ℕ) (prices demands : List ℕ) (e : ℕ) → ArePrices g prices → AreDemands g width demands → e < edge_numbers g →
    edge_cost g width prices e ≤ max_price * max_demand
edge_cost-limit g width prices demands e listed used number =
    let within : demand_on g width e ≤ max_demand = omega (arith, used.value e number, used.within (layer_of (size_of g) (edge_start e))) in
    mul-le (slice_index prices e) (demand_on g width e) max_price max_demand (listed.within e) within

pub piece_weight-limit : (g : Grid) (over : Ground) (width : ℕ) (prices demands : List ℕ) (p : Piece) → ArePrices g prices → AreDemands g width demands → Allows g over p →
    piece_weight g width prices p ≤ max_weight
piece_weight-limit g over width prices demands (Edge e) listed used allowed =
    let cost : edge_cost g width prices e.0 ≤ max_price * max_demand = edge_cost-limit g width prices demands e.0 listed used (allowed_number g over e allowed) in
    let wire : wirelength_price g prices ≤ max_price = listed.within (edge_numbers g) in
    cond_both (is_open g e.0) _ _ (λ w. w ≤ max_weight) (λ _. omega arith) (λ _. omega arith)
piece_weight-limit g over width prices demands (Via v) listed used allowed = let wire = listed.within (edge_numbers g) in omega arith

pub cost-limit : (g : Grid) (over : Ground) (width : ℕ) (prices demands : List ℕ) (p : Piece) → ArePrices g prices → AreDemands g width demands → Allows g over p →
    cost g width prices p ≤ max_price * max_demand
cost-limit g over width prices demands (Edge e) listed used allowed =
    let pays : edge_cost g width prices e.0 ≤ max_price * max_demand = edge_cost-limit g width prices demands e.0 listed used (allowed_number g over e allowed) in
    cond_both (is_open g e.0) _ _ (λ w. w ≤ max_price * max_demand) (λ _. pays) (λ _. omega arith)
cost-limit g over width prices demands (Via v) listed used allowed = omega arith

-- so the weights and the costs of a ground's pieces are within the limit
pub weights_within : (g : Grid) (over : Ground) (width : ℕ) (prices demands : List ℕ) → ArePrices g prices → AreDemands g width demands →
    AreWithinLimit (pieces_with g over (piece_weight g width prices))
weights_within g over width prices demands listed used p n weighs =
    let facts = (pieces_with-Weighs g over (piece_weight g width prices) p n).0 weighs in
    rw facts.1 (piece_weight-limit g over width prices demands p listed used facts.0)

pub costs_within : (g : Grid) (over : Ground) (width : ℕ) (prices demands : List ℕ) → ArePrices g prices → AreDemands g width demands →
    AreWithinLimit (pieces_with g over (cost g width prices))
costs_within g over width prices demands listed used p n weighs =
    let facts = (pieces_with-Weighs g over (cost g width prices) p n).0 weighs in
    omega (arith, facts.1, cost-limit g over width prices demands p listed used facts.0)

-- the lists of weights and of costs are lists for a search
pub weights_listed : (g : Grid) (over : Ground) (width : ℕ) (prices demands : List ℕ) → ArePrices g prices → AreDemands g width demands →
    IsWeightList (size_of g) (pieces_with g over (piece_weight g width prices))
weights_listed g over width prices demands listed used = record {
  once = pieces_with-NoPieceTwice g over (piece_weight g width prices);
  inside = pieces_with-WeighsOnlyPieces g over (piece_weight g width prices);
  within = weights_within g over width prices demands listed used;
}

pub costs_listed : (g : Grid) (over : Ground) (width : ℕ) (prices demands : List ℕ) → ArePrices g prices → AreDemands g width demands →
    IsWeightList (size_of g) (pieces_with g over (cost g width prices))
costs_listed g over width prices demands listed used = record {
  once = pieces_with-NoPieceTwice g over (cost g width prices);
  inside = pieces_with-WeighsOnlyPieces g over (cost g width prices);
  within = costs_within g over width prices demands listed used;
}
