-- The certificate of routes alone is accepted wherever the routes are.
use Rattle.std.proofs.Common.{◌≡◌, ℕ, ◌*◌, ◌^◌, ◌<◌, ◌≤◌, Bool, true, false, cond, List, ◌++◌, length, get_or, replicate, All, Option, Some, None, refl, sym, ◌∙◌, ap, subst, inr, ⊎_elim, arith, zero-add}
use Rattle.std.specs.Prelude.{slice_index}
use Rattle.std.specs.List.{range_with_len, sum_by}
use Rattle.std.proofs.lemmas.Bool.{cases_lt}
use Rattle.std.proofs.lemmas.List.{length-replicate, get_or-replicate, get_or_past}
use Rattle.std.proofs.lemmas.List.FromFn.{length-range_with_len, get_or-map-range_with_len, get_or-range_with_len}
use Rattle.std.proofs.lemmas.List.Sums.{count_by-le-length, sum_by-le}
use Rattle.std.proofs.lemmas.Option.{same_Some, slice_get-get_or}
use Rattle.std.proofs.lemmas.Slice.Zip.{AllZip-long}
use Rattle.cert_text.specs.declared.cert.Cert.{Cert}
use Rattle.cert_text.specs.Certs.{AreFractionsWithin, IsCertWithin}
use Rattle.cert_text.specs.Limits.{max_stated_price}
use Rattle.cert_text.specs.Versions.{version_of}
use Rattle.cert_text.proofs.LowestFractions.{least_denominator}
use Rattle.dual_bound.specs.Bounds.{BoundsDesign}
use Rattle.dual_bound.specs.Prices.{capacity_cost}
use Rattle.dual_bound.proofs.CapacityCosts.{capacity_cost-parts}
use Rattle.dual_bound.proofs.Duality.{nothing_bounds}
use Rattle.edge_prices.specs.declared.budget.Budget.{Budget}
use Rattle.edge_prices.specs.Budgets.{IsWithinLimits, most_of}
use Rattle.edge_prices.specs.Weights.{is_open}
use Rattle.fractions.specs.declared.fraction.Fraction.{Fraction}
use Rattle.grid_base.specs.declared.piece.Piece.{Piece}
use Rattle.grid_base.proofs.Lists.{AllZip-at}
use Rattle.grid_graph.specs.declared.design.Design.{Design}
use Rattle.grid_graph.specs.declared.grid.Grid.{Grid}
use Rattle.grid_graph.specs.declared.ground.Ground.{Ground}
use Rattle.grid_graph.specs.Grids.{capacity, edge_numbers, size_of}
use Rattle.grid_graph.specs.Grounds.{AreGrounds, IsGround}
use Rattle.grid_graph.proofs.Grounds.{at_place}
use Rattle.route_judge.specs.Bounds.{IsTooHigh}
use Rattle.route_judge.specs.Counts.{listed_price, listed_prices, needs_choked_edges, open_below, open_count}
use Rattle.route_judge.specs.Judgements.{IsJudged, StatesBound}
use Rattle.route_judge.specs.Measured.{IsMeasureOf}
use Rattle.route_judge.specs.NetSets.{AreSetsOf, IsSetOfNet}
use Rattle.route_judge.specs.Objections.{Differ, Finds}
use Rattle.route_judge.specs.Orders.{AreRoutes, bound_objections, count_objections, measure_objections, objections_but_bound, route_objections}
use Rattle.route_judge.proofs.Found.{found_behind}
use Rattle.route_text.specs.declared.block.Block.{Block}
use Rattle.tree_set.specs.Loads.{load}
use Rattle.tree_set.specs.Measures.{wirelength, IsPeakWith}
use Rattle.tree_set.specs.Order.{IsRising}
use Rattle.judge_laws.specs.RoutesAlone.{IsBoundWithoutPrices, IsCertOfRoutes, stated_measure}
use Rattle.judge_laws.proofs.CertLimits.{overflow_small, peak_within, wirelength_small}
use Rattle.judge_laws.proofs.WrittenBlocks.{AreRoutedSets}

-- ---- prices of 0

zero_at : (count i : ℕ) → slice_index (replicate count 0) i ≡ 0
zero_at count i =
    ⊎_elim
    (λ (inside : i < count). get_or-replicate count i 0 0 inside)
    (λ (past : count ≤ i). get_or_past (replicate {A = ℕ} count 0) i 0 (omega (arith, past, length-replicate {A = ℕ} count 0)))
    (cases_lt i count)

zero_or_closed : (is : Bool) (x : ℕ) → x ≡ 0 → cond is x 0 ≡ 0
zero_or_closed true x none = none
zero_or_closed false x none = refl

-- what is listed as 0 is 0 at each edge
listed_zero : (g : Grid) (count e : ℕ) → e < edge_numbers g → slice_index (listed_prices g (replicate count 0)) e ≡ 0
listed_zero g count e inside =
    get_or-map-range_with_len (listed_price g (replicate count 0)) 0 (edge_numbers g) e e 0 inside (zero-add e)
    ∙ zero_or_closed (is_open g e) (slice_index (replicate count 0) (open_below g e)) (zero_at count (open_below g e))

-- so the capacities cost nothing
costless : (g : Grid) (count : ℕ) → capacity_cost g (listed_prices g (replicate count 0)) None ≡ 0
costless g count =
    let prices = listed_prices g (replicate count 0) in
    let edges = range_with_len 0 (edge_numbers g) in
    let each : All (λ (e : ℕ). slice_index prices e * capacity g e ≤ 0) edges = λ k d below.
    let inside : k < edge_numbers g = omega (arith, below, length-range_with_len 0 (edge_numbers g)) in
    let e = get_or edges k d in
    let is : e ≡ k = get_or-range_with_len 0 (edge_numbers g) k d inside ∙ zero-add k in
    omega (arith, ap (λ (price : ℕ). price * capacity g e) (listed_zero g count e (omega (arith, inside, is)))) in
    omega (arith, capacity_cost-parts g prices None, sum_by-le (λ (e : ℕ). slice_index prices e * capacity g e) 0 edges each)

-- ---- the judge's answer

never_differs : (f : Option Fraction) → ¬ Differ f f
never_differs None = λ differs. differs
never_differs (Some f) = λ differs. differs refl

not_too_high : (g : Grid) (bound : Option Fraction) → IsBoundWithoutPrices g bound → ¬ IsTooHigh g None bound None
not_too_high g None none = none
not_too_high g (Some f) is = λ high. ⊎_elim
    (λ no. no is.0)
    (λ some. omega (arith, some.0, is.1))
    high

pub routes_accepted : (d : Design) (over : List Ground) (blocks : List Block) (cert : Cert) → AreRoutes d blocks → IsCertOfRoutes d over blocks cert → IsJudged d over blocks cert None
routes_accepted d over blocks cert routes is =
    let m = stated_measure cert in
    let many : length cert.prices ≡ open_count d.grid = ap length is.equal_prices ∙ length-replicate (open_count d.grid) 0 in
    let unpriced : most_of cert.budget ≡ None = ap most_of is.no_budget in
    let claims : Finds d (measure_objections cert m ++ count_objections d over cert) None =
    found_behind d (measure_objections cert m) (count_objections d over cert) None
    (inr (λ differs. differs refl, inr (λ differs. differs refl, inr (never_differs cert.peak, refl))))
    (inr (λ differs. differs is.nets, inr (λ differs. differs is.forced, inr (λ differs. differs many, refl)))) in
    record {
      measure = m;
      found = None;
      is_measure = λ _. (is.measured.trees, is.measured.sets, subst (λ (most : Option ℕ). IsMeasureOf d most is.measured.trees m) (sym unpriced) is.measured.measure);
      is_found = λ _. subst (λ (budget : Option Budget). capacity_cost d.grid (listed_prices d.grid cert.prices) budget ≡ 0) (sym is.no_budget)
          (subst (λ (prices : List ℕ). capacity_cost d.grid (listed_prices d.grid prices) None ≡ 0) (sym is.equal_prices) (costless d.grid (open_count d.grid)));
      first = found_behind d (objections_but_bound d over blocks cert m) (bound_objections cert None) None
          (found_behind d (route_objections d blocks) (measure_objections cert m ++ count_objections d over cert) None routes claims)
          (inr (subst (λ (most : Option ℕ). ¬ IsTooHigh d.grid most cert.bound None) (sym unpriced) (not_too_high d.grid cert.bound is.bound), refl));
    }

-- ---- its limits

bound_small : (g : Grid) (budget : Option Budget) (bound : Option Fraction) → budget ≡ None → IsBoundWithoutPrices g bound → AreFractionsWithin (version_of budget) bound
bound_small g (Some b) bound none is = absurd (cc none)
bound_small g None None none is = λ h some. absurd (cc some)
bound_small g None (Some f) none is = λ h same.
    let zero_of : f.num * 1 ≡ 0 * f.den = omega (arith, is.1) in
    let least : f.den ≤ 1 = least_denominator 0 1 f (omega arith) zero_of in
    subst (λ (x : Fraction). x.den ≤ 2 ^ 57) (same_Some f h same) (omega (arith, least))

all_rising : (d : Design) (blocks : List Block) (trees : List (List Piece)) → AreSetsOf d blocks trees → All IsRising trees
all_rising d blocks trees sets = λ k tree below.
    let net = at_place d.nets k (omega (arith, below, AllZip-long (IsSetOfNet d.grid blocks) d.nets trees sets)) in
    (AllZip-at (IsSetOfNet d.grid blocks) d.nets trees k net.0 (get_or trees k tree) sets net.1 (slice_get-get_or trees k tree below)).rising

pub routes_within : (d : Design) (over : List Ground) (blocks : List Block) (cert : Cert) → AreGrounds d.grid d.nets over → IsCertOfRoutes d over blocks cert → IsCertWithin cert
routes_within d over blocks cert grounds is =
    let trees = is.measured.trees in
    let m = is.measured.measure in
    let sets : AreRoutedSets d trees = record { rising = all_rising d blocks trees is.measured.sets; joining = is.measured.joining } in
    let peak : IsPeakWith d.grid (load d.grid d.nets trees) (wirelength trees) (most_of cert.budget) cert.peak =
    subst (λ (budget : Option Budget). IsPeakWith d.grid (load d.grid d.nets trees) (wirelength trees) (most_of budget) cert.peak) (sym is.no_budget) m.of_peak in
    record {
      nets = omega (arith, is.nets, d.limits.count);
      forced = omega (arith, is.forced, count_by-le-length needs_choked_edges over, AllZip-long (λ n found. IsGround d.grid n.terminals found) d.nets over grounds, d.limits.count);
      overflow = omega (arith, m.of_overflow, overflow_small d trees);
      wirelength = omega (arith, m.of_wirelength, wirelength_small d trees sets);
      peak = peak_within d.grid (load d.grid d.nets trees) (wirelength trees) cert.budget cert.peak peak;
      bound = bound_small d.grid cert.budget cert.bound is.no_budget is.bound;
      budget = subst IsWithinLimits (sym is.no_budget) (λ b none. absurd (cc none));
      few = omega (
        arith,
        ap length is.equal_prices ∙ length-replicate (open_count d.grid) 0,
        count_by-le-length (is_open d.grid) (range_with_len 0 (edge_numbers d.grid)),
        length-range_with_len 0 (edge_numbers d.grid),
        (size_of d.grid).within.vertex_limit,
      );
      prices = subst (λ (prices : List ℕ). All (λ price. price ≤ max_stated_price) prices) (sym is.equal_prices)
          (λ k p below. omega (arith, get_or-replicate {A = ℕ} (open_count d.grid) k 0 p (omega (arith, below, length-replicate {A = ℕ} (open_count d.grid) 0))));
    }

-- ---- its bound

bound_of : (d : Design) (bound : Option Fraction) (f : Fraction) → IsBoundWithoutPrices d.grid bound → bound ≡ Some f → BoundsDesign d None f.num f.den
bound_of d None f is same = absurd (cc same)
bound_of d (Some b) f is same =
    subst (λ (x : Fraction). BoundsDesign d None x.num x.den) (same_Some b f same)
    (subst (λ (num : ℕ). BoundsDesign d None num b.den) (sym is.1) (nothing_bounds d None is.0.0 b.den is.0.1 b.lowest.positive))

pub routes_bound : (d : Design) (over : List Ground) (blocks : List Block) (cert : Cert) → IsCertOfRoutes d over blocks cert → StatesBound d cert
routes_bound d over blocks cert is = λ f same.
    subst (λ (budget : Option Budget). BoundsDesign d (most_of budget) f.num f.den) (sym is.no_budget) (bound_of d cert.bound f is.bound same)
