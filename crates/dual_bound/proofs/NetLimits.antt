-- Net bounds are within their limit: fewer pieces than there are vertices join the terminals.
use Rattle.std.proofs.Common.{ℕ, ◌+◌, ◌-◌, ◌*◌, ◌<◌, ◌≤◌, Option, Some, None, cond, Bool, true, false, List, [], ◌∷◌, length, All, sum, slice_index, get_or, refl, arith}
use Rattle.std.specs.List.{AllZip}
use Rattle.std.proofs.Math.Nat.{mul-le-mul_right, one-le-mul}
use Rattle.std.proofs.lemmas.Nat.{mul-le}
use Rattle.std.proofs.lemmas.List.Elements.{All-head, All-tail, Contains-get_or}
use Rattle.std.proofs.lemmas.List.Sums.{sum_by-cons, sum_by-le}
use Rattle.grid_base.specs.declared.piece.Piece.{Piece}
use Rattle.grid_base.specs.declared.piece.Piece.TheVariants.{Edge, Via}
use Rattle.grid_base.specs.Limits.{max_vertices}
use Rattle.grid_base.specs.Numbers.{layer_of, edge_start, IsVertex}
use Rattle.grid_base.proofs.Walks.{walk_vertices}
use Rattle.grid_graph.specs.declared.design.Design.{Design}
use Rattle.grid_graph.specs.declared.grid.Grid.{Grid}
use Rattle.grid_graph.specs.declared.ground.Ground.{Ground}
use Rattle.grid_graph.specs.declared.ground.Ground.TheVariants.{Open, WithChoked}
use Rattle.grid_graph.specs.declared.net_spec.NetSpec.{NetSpec}
use Rattle.grid_graph.specs.Grids.{size_of, demand_on, edge_numbers, IsNetWidth, Allows}
use Rattle.grid_graph.specs.Grounds.{IsGround, JoinsTerminals}
use Rattle.grid_graph.specs.Limits.{max_demand}
use Rattle.grid_graph.specs.Weighed.{IsAllowed}
use Rattle.edge_prices.specs.Limits.{max_price}
use Rattle.edge_prices.specs.Weights.{cost, is_open, edge_cost}
use Rattle.edge_prices.proofs.GroundPieces.{allowed_number, pieces_with-Weighs, pieces_with-WeighsOnlyPieces}
use Rattle.edge_prices.proofs.Layers.{layer-below}
use Rattle.label_search.proofs.Forests.{forest, one_mark}
use Rattle.edge_prices.specs.declared.budget.Budget.{Budget}
use Rattle.edge_prices.specs.Budgets.{price_per_piece, IsWithinLimits}
use Rattle.lower_bound.specs.Costs.{costed}
use Rattle.lower_bound.proofs.Costed.{joined_by_costs}
use Rattle.lower_bound.proofs.LowBounds.{net_bound_low}
use Rattle.dual_bound.specs.DesignBounds.{IsBoundOfNet, IsSumOfBounds}
use Rattle.dual_bound.specs.Limits.{max_least_overflow, max_net_bound, max_piece_cost}
use Rattle.dual_bound.specs.Prices.{ArePricesWith}
use Rattle.dual_bound.proofs.NetsOf.{all_widths}

demand-limit : (g : Grid) (width e : ℕ) → IsNetWidth g width → e < edge_numbers g → demand_on g width e ≤ max_demand
demand-limit g width e wide number =
    let layer = layer_of (size_of g) (edge_start e) in
    let below = layer-below g e number in
    omega (arith, wide layer below, g.limits.greatest_demand layer below)

pub per_piece-limit : (budget : Option Budget) → IsWithinLimits budget → price_per_piece budget ≤ max_price
per_piece-limit None within = omega arith
per_piece-limit (Some budget) within = let known = within budget refl in omega (arith, known.1)

cond-below : (b : Bool) (n most : ℕ) → n ≤ most → cond b n 0 ≤ most
cond-below true n most below = below
cond-below false n most below = omega arith

piece-limit : (g : Grid) (prices : List ℕ) (budget : Option Budget) (width : ℕ) (over : Ground) (p : Piece) → ArePricesWith g prices budget → IsNetWidth g width
    → Allows g over p → cost g width prices p + price_per_piece budget ≤ max_piece_cost
piece-limit g prices budget width over (Edge e) are wide allowed =
    let pays : edge_cost g width prices e.0 ≤ max_price * max_demand =
    mul-le (slice_index prices e.0) (demand_on g width e.0) max_price max_demand (are.edges.listed.within e.0) (demand-limit g width e.0 wide (allowed_number g over e allowed)) in
    omega (arith, cond-below (is_open g e.0) (edge_cost g width prices e.0) (max_price * max_demand) pays, per_piece-limit budget are.wirelength)
piece-limit g prices budget width over (Via v) are wide allowed = omega (arith, per_piece-limit budget are.wirelength)

pub ground_joins : (g : Grid) (n : NetSpec) (over : Ground) → IsGround g n.terminals over → JoinsTerminals g over n.terminals
ground_joins g n Open is = is
ground_joins g n WithChoked is = is.1

-- a net costs no more than so many pieces of the greatest cost
net_bound-within : (g : Grid) (prices : List ℕ) (budget : Option Budget) (n : NetSpec) (bound most : ℕ)
    → ((over : Ground) (p : Piece) → Allows g over p → cost g n.width prices p + price_per_piece budget ≤ most)
    → IsBoundOfNet g prices budget n bound → bound ≤ (max_vertices - 1) * most
net_bound-within g prices budget n bound most below is =
    let q = price_per_piece budget in
    let s = size_of g in
    let pieces = costed g n.width is.over prices q in
    let f = forest s pieces in
    let only = pieces_with-WeighsOnlyPieces g is.over (λ p. cost g n.width prices p + q) in
    let each : All (λ (x : Piece × ℕ). x.1 ≤ most) f.kept = λ k d low.
    let x = get_or f.kept k d in
    let known = (pieces_with-Weighs g is.over (λ p. cost g n.width prices p + q) x.0 x.1).0 (f.within x (Contains-get_or f.kept k d low)) in
    omega (arith, known.1, below is.over x.0 known.0) in
    let light = sum_by-le (λ (x : Piece × ℕ). x.1) most f.kept each in
    let joined = joined_by_costs g n.width is.over prices q n.terminals (ground_joins g n is.over is.is_ground) in
    let low = net_bound_low s pieces n.terminals bound only is.is_bound f.kept (record { allowed = f.within; once = f.once })
    (λ a b at_a at_b. let walk = joined a b at_a at_b in let ends = walk_vertices s (IsAllowed pieces) a b walk in f.alike a b ends.0 ends.1 (one_mark s pieces f a b walk)) in
    let first : IsVertex s 0 = omega (arith, one-le-mul (one-le-mul s.within.has_col s.within.has_row) s.within.has_layer) in
    let few : length f.kept ≤ 8388607 = omega (arith, f.count, f.below 0 first, s.within.vertex_limit) in
    omega (arith, low, light, mul-le-mul_right most few)

-- so is a sum of them
sum-within : (g : Grid) (prices : List ℕ) (budget : Option Budget) (nets : List NetSpec) (bounds : List ℕ) (most : ℕ)
    → ((width : ℕ) (over : Ground) (p : Piece) → IsNetWidth g width → Allows g over p → cost g width prices p + price_per_piece budget ≤ most)
    → All (λ n. IsNetWidth g n.width) nets → AllZip (IsBoundOfNet g prices budget) nets bounds → sum bounds ≤ length nets * ((max_vertices - 1) * most)
sum-within g prices budget [] [] most below wide each = omega arith
sum-within g prices budget [] (b ∷ bounds) most below wide each = absurd each
sum-within g prices budget (n ∷ nets) [] most below wide each = absurd each
sum-within g prices budget (n ∷ nets) (b ∷ bounds) most below wide each =
    let here = All-head (λ (m : NetSpec). IsNetWidth g m.width) n nets wide in
    omega (
      arith,
      sum_by-cons (λ (x : ℕ). x) b bounds,
      net_bound-within g prices budget n b most (λ over p allowed. below n.width over p here allowed) each.0,
      sum-within g prices budget nets bounds most below (All-tail (λ (m : NetSpec). IsNetWidth g m.width) n nets wide) each.1,
    )

pub sum-limit : (g : Grid) (prices : List ℕ) (budget : Option Budget) (nets : List NetSpec) (bounds : List ℕ) → ArePricesWith g prices budget
    → All (λ n. IsNetWidth g n.width) nets → AllZip (IsBoundOfNet g prices budget) nets bounds → sum bounds ≤ length nets * max_net_bound
sum-limit g prices budget nets bounds are wide each =
    sum-within g prices budget nets bounds max_piece_cost (λ width over p wide allowed. piece-limit g prices budget width over p are wide allowed) wide each

-- without a budget a piece costs a demand at the greatest price
piece-by_price : (g : Grid) (prices : List ℕ) (price width : ℕ) (over : Ground) (p : Piece) → ((r : ℕ) → slice_index prices r ≤ price)
    → IsNetWidth g width → Allows g over p → cost g width prices p + 0 ≤ price * max_demand
piece-by_price g prices price width over (Edge e) most wide allowed =
    let pays : edge_cost g width prices e.0 ≤ price * max_demand =
    mul-le (slice_index prices e.0) (demand_on g width e.0) price max_demand (most e.0) (demand-limit g width e.0 wide (allowed_number g over e allowed)) in
    omega (arith, cond-below (is_open g e.0) (edge_cost g width prices e.0) (price * max_demand) pays)
piece-by_price g prices price width over (Via v) most wide allowed = omega arith

-- so are the nets, by the greatest price
pub sum-by_price : (d : Design) (prices : List ℕ) (price total : ℕ) → ((r : ℕ) → slice_index prices r ≤ price)
    → IsSumOfBounds d.grid prices None d.nets total → total ≤ price * max_least_overflow
sum-by_price d prices price total most is =
    let each = sum-within d.grid prices None d.nets is.bounds (price * max_demand) (λ width over p wide allowed. piece-by_price d.grid prices price width over p most wide allowed) (all_widths d) is.each in
    omega (arith, is.sums, each, mul-le-mul_right ((max_vertices - 1) * (price * max_demand)) d.limits.count)
