-- A price list shows overflow: what the routes cost beyond the capacities has to be the price of an excess.
use Rattle.std.proofs.Common.{◌≡◌, ◌≢◌, ℕ, zero, suc, ◌+◌, ◌-◌, ◌*◌, ◌/◌, ◌%◌, ◌<◌, ◌≤◌, ltb, lt-ltb, Bool, true, false, cond, List, [], ◌∷◌, None, slice_index, refl, sym, ◌∙◌, ap, subst, ⊎_elim, arith, zero-add}
use Rattle.std.specs.List.{AllZip, Contains, sum, sum_by, range_with_len, zip}
use Rattle.std.proofs.Math.Nat.{div-add-mod, div-lt_iff_lt-mul, mod-lt, mul-le-mul_left, mul-le-mul_right, mul-zero, zero-mul}
use Rattle.std.proofs.lemmas.Bool.{cases_lt}
use Rattle.std.proofs.lemmas.List.Sums.{sum_by-cons, sum-map}
use Rattle.rayon.proofs.ListFacts.{AllZip-weaken}
use Rattle.grid_base.specs.declared.piece.Piece.{Piece}
use Rattle.grid_graph.specs.declared.design.Design.{Design}
use Rattle.grid_graph.specs.declared.grid.Grid.{Grid}
use Rattle.grid_graph.specs.declared.kind.Kind.{Kind}
use Rattle.grid_graph.specs.declared.kind.Kind.TheVariants.{Open, Choked, Wall}
use Rattle.grid_graph.specs.declared.net_spec.NetSpec.{NetSpec}
use Rattle.grid_graph.specs.Grids.{capacity, demand_on, edge_numbers, entries, kind, first_capacity}
use Rattle.edge_prices.specs.Weights.{AreEdgePrices}
use Rattle.tree_set.specs.Loads.{holds, load, load_on, net_load}
use Rattle.tree_set.specs.Measures.{excess, overflow, wirelength}
use Rattle.tree_set.specs.Routings.{IsRouting}
use Rattle.dual_bound.specs.DesignBounds.{IsAtMostEachRoute, IsBoundOfNet, IsSumOfBounds}
use Rattle.dual_bound.specs.LeastOverflow.{IsMostOfPrices, least_overflow}
use Rattle.dual_bound.specs.Prices.{price_at, capacity_cost}
use Rattle.dual_bound.specs.WholeWires.{AreUnits, IsMostOfUnits, whole_capacity, whole_cost}
use Rattle.dual_bound.proofs.CapacityCosts.{sum_by-range-more, sum_by-range-same, capacity_cost-parts}
use Rattle.dual_bound.proofs.Closed.{at_edge, at_wirelength}
use Rattle.dual_bound.proofs.Duality.{routing_cost}
use Rattle.dual_bound.proofs.LoadCosts.{priced}
use Rattle.dual_bound.proofs.Routes.{net_bound_at_most}

-- a load of whole units costs no more than the whole units of the capacity and, at a number that is great enough, what is beyond
-- the capacity
by_units : (price most unit capacity k : ℕ) → 0 < unit → price * unit ≤ most * (unit - capacity % unit)
    → price * (unit * k) ≤ price * (capacity - capacity % unit) + most * (unit * k - capacity)
by_units price most unit capacity k some at_most =
    let q = capacity / unit in
    let r = capacity % unit in
    let whole : unit * q + r ≡ capacity = div-add-mod capacity unit in
    let less : r < unit = mod-lt capacity some in
    ⊎_elim
    (λ (more : q < k).
    let j = k - (q + 1) in
    let count : k ≡ q + 1 + j = omega (arith, more) in
    let used : unit * k ≡ unit * q + unit + unit * j = ap (λ (n : ℕ). unit * n) count ∙ omega arith in
    let within : most * (unit - r) ≤ most * unit = mul-le-mul_left most (omega arith) in
    let no_greater : price ≤ most = ⊎_elim
    (λ (above : most < price).
    let scaled : (most + 1) * unit ≤ price * unit = mul-le-mul_right unit (omega (arith, above)) in
    let split : (most + 1) * unit ≡ most * unit + unit = omega arith in
    absurd (omega (arith, scaled, split, within, at_most, some)))
    (λ (at : price ≤ most). at)
    (cases_lt most price) in
    let behind : price * (unit * j) ≤ most * (unit * j) = mul-le-mul_right (unit * j) no_greater in
    let over : unit * k - capacity ≡ unit * j + (unit - r) = omega (arith, used, whole, less) in
    let base : capacity - r ≡ unit * q = omega (arith, whole) in
    let cost : price * (unit * k) ≡ price * (unit * q) + price * unit + price * (unit * j) = ap (λ (n : ℕ). price * n) used ∙ omega arith in
    let paid : most * (unit * k - capacity) ≡ most * (unit * j) + most * (unit - r) = ap (λ (n : ℕ). most * n) over ∙ omega arith in
    let held : price * (capacity - r) ≡ price * (unit * q) = ap (λ (n : ℕ). price * n) base in
    omega (arith, cost, paid, held, behind, at_most))
    (λ (no_more : k ≤ q).
    let below : unit * k ≤ unit * q = mul-le-mul_left unit no_more in
    let within : price * (unit * k) ≤ price * (capacity - r) = mul-le-mul_left price (omega (arith, below, whole)) in
    omega (arith, within))
    (cases_lt q k)

open_by_capacity : (g : Grid) (e : ℕ) → 0 < capacity g e → kind g e ≡ Open
open_by_capacity g e some = ap (λ (b : Bool). cond b Open (cond (ltb 0 (first_capacity g e)) Choked Wall)) (lt-ltb 0 (capacity g e) some)

-- that of an edge: where it has no capacity it has no price
of_edge : (g : Grid) (prices : List ℕ) (units : ℕ → ℕ) (most used k e : ℕ) → AreEdgePrices g prices → 0 < units e
    → slice_index prices e * units e ≤ most * (units e - capacity g e % units e) → used ≡ units e * k → e < edge_numbers g
    → slice_index prices e * used ≤ slice_index prices e * whole_capacity g units e + most * excess (kind g e) used (capacity g e)
of_edge g prices units most used k e are positive at_most is inside = ⊎_elim
    (λ (some : 0 < capacity g e).
    subst (λ (n : ℕ). slice_index prices e * n ≤ slice_index prices e * whole_capacity g units e + most * excess (kind g e) n (capacity g e)) (sym is)
    (subst (λ (kind_of : Kind). slice_index prices e * (units e * k) ≤ slice_index prices e * whole_capacity g units e + most * excess kind_of (units e * k) (capacity g e)) (sym (open_by_capacity g e some))
    (by_units (slice_index prices e) most (units e) (capacity g e) k positive at_most)))
    (λ (none : capacity g e ≤ 0).
    let free : slice_index prices e ≡ 0 = are.listed.closed e inside (omega (arith, none)) in
    rw free (omega arith))
    (cases_lt 0 (capacity g e))

-- that of all edges
of_edges : (price capacity loads over : ℕ → ℕ) (most count first : ℕ) → ((e : ℕ) → e < first + count → price e * loads e ≤ price e * capacity e + most * over e)
    → sum_by (λ e. price e * loads e) (range_with_len first count)
    ≤ sum_by (λ e. price e * capacity e) (range_with_len first count) + most * sum_by over (range_with_len first count)
of_edges price capacity loads over most zero first each = omega arith
of_edges price capacity loads over most (suc count) first each =
    let rest = range_with_len (first + 1) count in
    let split : most * (over first + sum_by over rest) ≡ most * over first + most * sum_by over rest = omega arith in
    let whole : most * sum_by over (range_with_len first (suc count)) ≡ most * (over first + sum_by over rest) = ap (λ x. most * x) (sum_by-cons over first rest) in
    omega (
      arith,
      sum_by-cons (λ e. price e * loads e) first rest,
      sum_by-cons (λ e. price e * capacity e) first rest,
      split,
      whole,
      each first (omega arith),
      of_edges price capacity loads over most count (first + 1) (λ e inside. each e (omega (arith, inside))),
    )

-- what a net uses of an edge by a set is none or a multiple of its unit
used_by : (b : Bool) (demand unit : ℕ) → demand % unit ≡ 0 → (k : ℕ) × (cond b demand 0 ≡ unit * k)
used_by true demand unit is = (demand / unit, omega (arith, is, div-add-mod demand unit))
used_by false demand unit is = (0, omega (arith, mul-zero unit))

-- and so is what a routing uses
load_in_units : (g : Grid) (nets : List NetSpec) (trees : List (List Piece)) (unit e : ℕ) → ((n : NetSpec) → Contains nets n → demand_on g n.width e % unit ≡ 0)
    → (k : ℕ) × (load g nets trees e ≡ unit * k)
load_in_units g [] trees unit e each = (0, omega (arith, mul-zero unit))
load_in_units g (n ∷ nets) [] unit e each = (0, omega (arith, mul-zero unit))
load_in_units g (n ∷ nets) (t ∷ trees) unit e each =
    let first = used_by (holds t e) (demand_on g n.width e) unit (each n (0, omega arith, refl)) in
    let rest = load_in_units g nets trees unit e (λ m at. each m (suc at.0, omega (arith, at.1), at.2)) in
    let whole : load g (n ∷ nets) (t ∷ trees) e ≡ net_load g n.width t e + load g nets trees e = sum_by-cons (λ x. net_load g x.0.width x.1 e) (n, t) (zip nets trees) in
    let split : unit * (first.0 + rest.0) ≡ unit * first.0 + unit * rest.0 = omega arith in
    (first.0 + rest.0, omega (arith, whole, split, first.1, rest.1))

-- without a budget what a routing costs is what its loads on edges cost
load_on_edges : (g : Grid) (prices : List ℕ) (nets : List NetSpec) (trees : List (List Piece))
    → priced (price_at g prices None) (load_on g nets trees) (range_with_len 0 (entries g))
    ≡ sum_by (λ r. slice_index prices r * load g nets trees r) (range_with_len 0 (edge_numbers g))
load_on_edges g prices nets trees =
    let last = edge_numbers g in
    let f : ℕ → ℕ = λ r. price_at g prices None r * load_on g nets trees r in
    let h : ℕ → ℕ = λ r. slice_index prices r * load g nets trees r in
    let wire : f last ≡ 0 = ap (λ x. x * load_on g nets trees last) (at_wirelength g 0 (slice_index prices last) last refl) ∙ zero-mul (load_on g nets trees last) in
    let edge : (r : ℕ) → r < 0 + last → f r ≡ h r = λ r inside.
    let differs : r ≢ last = λ same. absurd (omega (arith, inside, same)) in
    ap (λ x. x * load_on g nets trees r) (at_edge g 0 (slice_index prices r) r differs)
    ∙ ap (λ x. slice_index prices r * x) (at_edge g (wirelength trees) (load g nets trees r) r differs) in
    let place : 0 + last ≡ last = zero-add last in
    let one_more : last + 1 ≡ suc last = omega arith in
    let whole : sum_by f (range_with_len 0 (last + 1)) ≡ sum_by f (range_with_len 0 (suc last)) = ap (λ n. sum_by f (range_with_len 0 n)) one_more in
    let parts : sum_by f (range_with_len 0 (suc last)) ≡ sum_by h (range_with_len 0 last) =
    omega (arith, sum_by-range-more f 0 last, ap f place, wire, sum_by-range-same f h last 0 edge) in
    whole ∙ parts

-- what the routes cost at least is at most what the whole units of the capacities cost and, at a number that is great enough, the
-- overflow
overfull : (d : Design) (prices : List ℕ) (units : ℕ → ℕ) (most : ℕ) (lows : List ℕ) (trees : List (List Piece)) → AreEdgePrices d.grid prices → AreUnits d units
    → IsMostOfUnits d.grid prices units most → AllZip (IsAtMostEachRoute d.grid prices None) d.nets lows → IsRouting d.grid d.nets trees
    → sum lows ≤ whole_cost d.grid prices units + most * overflow d.grid (load d.grid d.nets trees)
overfull d prices units most lows trees are in_units greatest low routing =
    let g = d.grid in
    let loads = load g d.nets trees in
    let over : ℕ → ℕ = λ e. excess (kind g e) (loads e) (capacity g e) in
    let edges = range_with_len 0 (edge_numbers g) in
    let routes = routing_cost g prices None d.nets trees lows routing low in
    let each = of_edges (slice_index prices) (whole_capacity g units) loads over most (edge_numbers g) 0
    (λ e inside.
    let here : e < edge_numbers g = omega (arith, inside) in
    let whole = load_in_units g d.nets trees (units e) e (λ n at. in_units.divides e n here at) in
    of_edge g prices units most (loads e) whole.0 e are (in_units.positive e) (greatest.each e here) whole.1 here) in
    let counted : most * overflow g loads ≡ most * sum_by over edges = ap (λ x. most * x) (sum-map over edges) in
    omega (arith, routes, load_on_edges g prices d.nets trees, each, counted)

-- a quotient that is rounded up is at most what it is at most a multiple of
rounded_up : (price beyond most : ℕ) → 0 < price → beyond ≤ price * most → (beyond + (price - 1)) / price ≤ most
rounded_up price beyond most some at_most =
    let turned : (most + 1) * price ≡ price * most + price = omega arith in
    let less : beyond + (price - 1) < (most + 1) * price = omega (arith, some, at_most, turned) in
    let below = (div-lt_iff_lt-mul {k = price} {x = beyond + (price - 1)} {y = most + 1} some).1 less in
    omega (arith, below)

pub whole_overflows : (d : Design) (prices : List ℕ) (units : ℕ → ℕ) (most : ℕ) (lows : List ℕ) (trees : List (List Piece)) → AreEdgePrices d.grid prices
    → AreUnits d units → IsMostOfUnits d.grid prices units most → AllZip (IsAtMostEachRoute d.grid prices None) d.nets lows → IsRouting d.grid d.nets trees
    → least_overflow (sum lows) (whole_cost d.grid prices units) most ≤ overflow d.grid (load d.grid d.nets trees)
whole_overflows d prices units most lows trees are in_units greatest low routing =
    let least = overfull d prices units most lows trees are in_units greatest low routing in
    rounded_up most (sum lows - whole_cost d.grid prices units) (overflow d.grid (load d.grid d.nets trees)) greatest.positive (omega (arith, least))

-- ---- units of 1

of_one : (n : ℕ) → n - n % 1 ≡ n
of_one n = omega arith

ones_are_units : (d : Design) → AreUnits d (λ e. 1)
ones_are_units d = record { positive = λ e. omega arith; divides = λ e n inside at. omega arith }

most_of_ones : (g : Grid) (prices : List ℕ) (price : ℕ) → IsMostOfPrices prices price → IsMostOfUnits g prices (λ e. 1) price
most_of_ones g prices price greatest = record {
  positive = greatest.positive;
  each = λ e inside.
      let part : 1 - capacity g e % 1 ≡ 1 = omega arith in
      let scaled : price * (1 - capacity g e % 1) ≡ price * 1 = ap (λ (n : ℕ). price * n) part in
      omega (arith, scaled, greatest.most e);
}

cost_of_ones : (g : Grid) (prices : List ℕ) → whole_cost g prices (λ e. 1) ≡ capacity_cost g prices None
cost_of_ones g prices =
    let same = sum_by-range-same (λ e. slice_index prices e * whole_capacity g (λ e. 1) e) (λ e. slice_index prices e * capacity g e) (edge_numbers g) 0
    (λ e inside. ap (λ (n : ℕ). slice_index prices e * n) (of_one (capacity g e))) in
    omega (arith, same, capacity_cost-parts g prices None)

pub overflows : (d : Design) (prices : List ℕ) (price total : ℕ) (trees : List (List Piece)) → AreEdgePrices d.grid prices → IsMostOfPrices prices price
    → IsSumOfBounds d.grid prices None d.nets total → IsRouting d.grid d.nets trees
    → least_overflow total (capacity_cost d.grid prices None) price ≤ overflow d.grid (load d.grid d.nets trees)
overflows d prices price total trees are greatest is routing =
    let lows = AllZip-weaken (IsBoundOfNet d.grid prices None) (IsAtMostEachRoute d.grid prices None) (net_bound_at_most d.grid prices None) d.nets is.bounds is.each in
    let shown = whole_overflows d prices (λ e. 1) price is.bounds trees are (ones_are_units d) (most_of_ones d.grid prices price greatest) lows routing in
    subst (λ (cost : ℕ). least_overflow total cost price ≤ overflow d.grid (load d.grid d.nets trees)) (cost_of_ones d.grid prices)
    (subst (λ (sum_of : ℕ). least_overflow sum_of (whole_cost d.grid prices (λ e. 1)) price ≤ overflow d.grid (load d.grid d.nets trees)) (sym is.sums) shown)
