-- What a true certificate states is within the limits of certificates.
use Rattle.std.proofs.Common.{ℕ, ◌*◌, ◌^◌, ◌<◌, ◌≤◌, Bool, true, false, cond, List, length, get_or, All, Option, Some, None, sym, subst, ⊎_elim, arith}
use Rattle.std.specs.Prelude.{max, map, slice_index}
use Rattle.std.specs.List.{range_with_len, sum_by, zip}
use Rattle.std.proofs.Math.Nat.{max-eq_left, max-eq_right}
use Rattle.std.proofs.lemmas.Bool.{cases_lt}
use Rattle.std.proofs.lemmas.List.{length-map}
use Rattle.std.proofs.lemmas.List.Elements.{All-map}
use Rattle.std.proofs.lemmas.List.FromFn.{length-range_with_len}
use Rattle.std.proofs.lemmas.List.Sums.{sum_by-le, count_by-le-length}
use Rattle.std.proofs.lemmas.Nat.{mul-le}
use Rattle.std.proofs.lemmas.Option.{same_Some, slice_get-get_or}
use Rattle.std.proofs.lemmas.Slice.Zip.{length-zip, get_or-zip, AllZip-long}
use Rattle.cert_text.specs.declared.cert.Cert.{Cert}
use Rattle.cert_text.specs.Certs.{AreFractionsWithin, IsCertWithin}
use Rattle.cert_text.specs.Limits.{max_stated_total}
use Rattle.cert_text.specs.Versions.{version_of}
use Rattle.cert_text.proofs.LowestFractions.{least_denominator}
use Rattle.dual_bound.specs.DesignBounds.{IsBoundOrNone}
use Rattle.dual_bound.specs.Prices.{capacity_cost}
use Rattle.dual_bound.proofs.CapacityCosts.{capacity_cost-parts}
use Rattle.edge_prices.specs.Limits.{max_price}
use Rattle.edge_prices.specs.Weights.{is_open, AreEdgePrices}
use Rattle.grid_base.specs.declared.piece.Piece.{Piece}
use Rattle.grid_base.specs.Numbers.{layer_of, edge_start, vertices}
use Rattle.grid_graph.specs.declared.design.Design.{Design}
use Rattle.grid_graph.specs.declared.grid.Grid.{Grid}
use Rattle.grid_graph.specs.declared.ground.Ground.{Ground}
use Rattle.grid_graph.specs.declared.kind.Kind.{Kind}
use Rattle.grid_graph.specs.declared.kind.Kind.TheVariants.{Open, Choked, Wall}
use Rattle.grid_graph.specs.declared.net_spec.NetSpec.{NetSpec}
use Rattle.grid_graph.specs.Grids.{capacity, demand_on, edge_numbers, kind, size_of, IsNetWidth, width_of_layer}
use Rattle.grid_graph.specs.Grounds.{IsGround, AreGrounds}
use Rattle.grid_graph.specs.Limits.{max_capacity, max_demand}
use Rattle.grid_graph.proofs.Grounds.{at_place}
use Rattle.edge_prices.specs.declared.budget.Budget.{Budget}
use Rattle.fractions.specs.declared.fraction.Fraction.{Fraction}
use Rattle.edge_prices.specs.Budgets.{most_of}
use Rattle.tree_set.specs.Loads.{holds, load, net_load}
use Rattle.tree_set.specs.Measures.{excess, overflow, wirelength, IsPeakWith}
use Rattle.tree_set.proofs.Counting.{length-pieces}
use Rattle.tree_set.proofs.Fullest.{capacity-open}
use Rattle.route_judge.specs.Counts.{needs_choked_edges, listed_prices}
use Rattle.route_judge.proofs.OpenEdges.{listed_are_prices}
use Rattle.judge_laws.specs.Meeting.{ClaimsTruly}
use Rattle.judge_laws.proofs.WrittenBlocks.{AreRoutedSets, sets_long, set_at}

-- ---- loads

-- no net's load on an edge is greater than this, nor that of all nets
abbrev max_net_load : ℕ
max_net_load = 2046

max_of_both : (a b most : ℕ) → a ≤ most → b ≤ most → max a b ≤ most
max_of_both a b most first second =
    ⊎_elim
    (λ (less : a < b). subst (λ (m : ℕ). m ≤ most) (sym (max-eq_right (omega (arith, less)))) second)
    (λ (more : b ≤ a). subst (λ (m : ℕ). m ≤ most) (sym (max-eq_left more)) first)
    (cases_lt a b)

demand_small : (g : Grid) (width e : ℕ) → IsNetWidth g width → demand_on g width e ≤ max_net_load
demand_small g width e fits =
    let layer : ℕ = layer_of (size_of g) (edge_start e) in
    let narrow : width ≤ max_demand = omega (arith, fits 0 (size_of g).within.has_layer) in
    let most : max width (width_of_layer g layer) ≤ max_demand = max_of_both width (width_of_layer g layer) max_demand narrow (g.limits.wide.within layer) in
    omega (arith, most, g.limits.spaced.within layer)

chosen_small : (b : Bool) (x most : ℕ) → x ≤ most → cond b x 0 ≤ most
chosen_small true x most small = small
chosen_small false x most small = omega arith

load_small : (d : Design) (trees : List (List Piece)) (e : ℕ) → load d.grid d.nets trees e ≤ 2 ^ 34
load_small d trees e =
    let pairs = zip d.nets trees in
    let each : All (λ (x : NetSpec × List Piece). net_load d.grid x.0.width x.1 e ≤ max_net_load) pairs = λ k x below.
    let in_nets : k < length d.nets = omega (arith, below, length-zip d.nets trees) in
    let in_trees : k < length trees = omega (arith, below, length-zip d.nets trees) in
    let fits = (d.limits.net k (get_or d.nets k x.0) (slice_get-get_or d.nets k x.0 in_nets)).width in
    let small : net_load d.grid (get_or d.nets k x.0).width (get_or trees k x.1) e ≤ max_net_load =
    chosen_small (holds (get_or trees k x.1) e) (demand_on d.grid (get_or d.nets k x.0).width e) max_net_load (demand_small d.grid (get_or d.nets k x.0).width e fits) in
    subst (λ (y : NetSpec × List Piece). net_load d.grid y.0.width y.1 e ≤ max_net_load) (sym (get_or-zip d.nets trees k x in_nets in_trees)) small in
    omega (arith, sum_by-le (λ (x : NetSpec × List Piece). net_load d.grid x.0.width x.1 e) max_net_load pairs each, length-zip d.nets trees, d.limits.count)

excess_small : (k : Kind) (used capacity most : ℕ) → used ≤ most → excess k used capacity ≤ most
excess_small Open used capacity most small = omega (arith, small)
excess_small Choked used capacity most small = omega (arith, small)
excess_small Wall used capacity most small = omega arith

pub overflow_small : (d : Design) (trees : List (List Piece)) → overflow d.grid (load d.grid d.nets trees) ≤ max_stated_total
overflow_small d trees =
    let g = d.grid in
    let edges = 2 * vertices (size_of g) in
    let f : ℕ → ℕ = λ e. excess (kind g e) (load g d.nets trees e) (capacity g e) in
    let each : All (λ (y : ℕ). y ≤ 2 ^ 34) (map f (range_with_len 0 edges)) =
    All-map (λ (y : ℕ). y ≤ 2 ^ 34) f (range_with_len 0 edges) (λ k e below. excess_small (kind g (get_or (range_with_len 0 edges) k e)) _ (capacity g (get_or (range_with_len 0 edges) k e)) (2 ^ 34) (load_small d trees (get_or (range_with_len 0 edges) k e))) in
    omega (
      arith,
      sum_by-le (λ (y : ℕ). y) (2 ^ 34) (map f (range_with_len 0 edges)) each,
      length-map (range_with_len 0 edges) f,
      length-range_with_len 0 edges,
      (size_of g).within.vertex_limit,
    )

pub wirelength_small : (d : Design) (trees : List (List Piece)) → AreRoutedSets d trees → wirelength trees ≤ max_stated_total
wirelength_small d trees sets =
    let s = size_of d.grid in
    let each : All (λ (tree : List Piece). length tree ≤ 2 ^ 25) trees = λ k tree below.
    let net = at_place d.nets k (omega (arith, below, sets_long d trees sets)) in
    let own = set_at d trees k net.0 (get_or trees k tree) sets net.1 (slice_get-get_or trees k tree below) in
    omega (arith, length-pieces s (get_or trees k tree) own.rising own.pieces, s.within.vertex_limit) in
    omega (arith, sum_by-le (λ (tree : List Piece). length tree) (2 ^ 25) trees each, sets_long d trees sets, d.limits.count)

-- ---- fractions

pub peak_within : (g : Grid) (used : ℕ → ℕ) (wire : ℕ) (budget : Option Budget) (peak : Option Fraction) → IsPeakWith g used wire (most_of budget) peak
    → AreFractionsWithin (version_of budget) peak
peak_within g used wire None None is = λ f none. absurd (cc none)
peak_within g used wire None (Some f) is = λ h same.
    let least : f.den ≤ capacity g is.edge = least_denominator (used is.edge) (capacity g is.edge) f (capacity-open g is.edge is.is_open) is.reached in
    subst (λ (x : Fraction). x.den ≤ 2 ^ 57) (same_Some f h same) (omega (arith, least, g.table.within is.edge))
peak_within g used wire (Some b) peak is = λ h same. h.lowest.limit

edge_costs_small : (g : Grid) (prices : List ℕ) → AreEdgePrices g prices → sum_by (λ r. slice_index prices r * capacity g r) (range_with_len 0 (edge_numbers g)) ≤ 2 ^ 57
edge_costs_small g prices are =
    let each : All (λ (r : ℕ). slice_index prices r * capacity g r ≤ 2 ^ 33) (range_with_len 0 (edge_numbers g)) = λ k e below.
    let r = get_or (range_with_len 0 (edge_numbers g)) k e in
    let product : slice_index prices r * capacity g r ≤ max_price * max_capacity = mul-le (slice_index prices r) (capacity g r) max_price max_capacity (are.listed.within r) (g.table.within r) in
    omega (arith, product) in
    omega (
      arith,
      sum_by-le (λ (r : ℕ). slice_index prices r * capacity g r) (2 ^ 33) (range_with_len 0 (edge_numbers g)) each,
      length-range_with_len 0 (edge_numbers g),
      (size_of g).within.vertex_limit,
    )

pub bound_within : (d : Design) (prices : List ℕ) (budget : Option Budget) (bound : Option Fraction) → AreEdgePrices d.grid prices → IsBoundOrNone d prices budget bound
    → AreFractionsWithin (version_of budget) bound
bound_within d prices None None are is = λ f none. absurd (cc none)
bound_within d prices None (Some f) are is = λ h same.
    let least : f.den ≤ capacity_cost d.grid prices None = least_denominator is.total (capacity_cost d.grid prices None) f is.exists is.ratio in
    subst (λ (x : Fraction). x.den ≤ 2 ^ 57) (same_Some f h same) (omega (arith, least, capacity_cost-parts d.grid prices None, edge_costs_small d.grid prices are))
bound_within d prices (Some b) bound are is = λ h same. h.lowest.limit

-- ---- all that it states

pub true_cert_within : (d : Design) (over : List Ground) (trees : List (List Piece)) (cert : Cert) → AreGrounds d.grid d.nets over → AreRoutedSets d trees
    → All (λ (price : ℕ). price ≤ max_price) cert.prices → ClaimsTruly d over trees cert → IsCertWithin cert
true_cert_within d over trees cert grounds sets prices claims = record {
  nets = omega (arith, claims.nets, d.limits.count);
  forced = omega (arith, claims.forced, count_by-le-length needs_choked_edges over, AllZip-long (λ n found. IsGround d.grid n.terminals found) d.nets over grounds, d.limits.count);
  overflow = omega (arith, claims.overflow_is, overflow_small d trees);
  wirelength = omega (arith, claims.wirelength_is, wirelength_small d trees sets);
  peak = peak_within d.grid (load d.grid d.nets trees) (wirelength trees) cert.budget cert.peak claims.peak;
  bound = bound_within d (listed_prices d.grid cert.prices) cert.budget cert.bound (listed_are_prices d.grid cert.prices prices) claims.bound;
  budget = claims.budget;
  few = omega (
    arith,
    claims.prices,
    count_by-le-length (is_open d.grid) (range_with_len 0 (edge_numbers d.grid)),
    length-range_with_len 0 (edge_numbers d.grid),
    (size_of d.grid).within.vertex_limit,
  );
  prices = prices;
}
