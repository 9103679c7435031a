-- The certificate that a climb comes to is accepted, and its bound is not below the given one.
use Rattle.std.proofs.Common.{◌≡◌, ℕ, zero, suc, ◌*◌, ◌<◌, ◌≤◌, List, Option, Some, None, refl, sym, ◌∙◌, ap, subst, inl, inr, ⊎_elim, arith}
use Rattle.std.proofs.lemmas.Bool.{cases_lt}
use Rattle.bound_climb.specs.declared.climbed.Climbed.{Climbed}
use Rattle.bound_climb.specs.Climbs.{IsBestCandidate, IsGreaterBound, candidate_budget, candidate_prices, climb_loads, climb_vector, steps_of}
use Rattle.cert_text.specs.declared.cert.Cert.{Cert}
use Rattle.cert_text.specs.Certs.{IsCertOf, IsCertWithin}
use Rattle.cert_text.specs.CertText.{cert_text}
use Rattle.dual_bound.specs.DesignBounds.{IsBoundOrNone}
use Rattle.dual_bound.specs.Prices.{ArePricesWith}
use Rattle.edge_prices.specs.declared.budget.Budget.{Budget}
use Rattle.edge_prices.specs.Budgets.{most_of}
use Rattle.fractions.specs.declared.fraction.Fraction.{Fraction}
use Rattle.fractions.specs.Fractions.{IsAtMost}
use Rattle.fractions.proofs.Ratios.{ratio-trans}
use Rattle.grid_base.specs.declared.piece.Piece.{Piece}
use Rattle.grid_graph.specs.declared.design.Design.{Design}
use Rattle.grid_graph.specs.declared.grid.Grid.{Grid}
use Rattle.grid_graph.specs.declared.ground.Ground.{Ground}
use Rattle.grid_graph.proofs.Grounds.{at_place}
use Rattle.judge_laws.specs.OpenPrices.{with_prices}
use Rattle.judge_laws.proofs.OneBound.{at_most_found}
use Rattle.judge_laws.proofs.OtherPrices.{accepted_anew, bounds_anew, reads_back_anew}
use Rattle.route_judge.specs.Bounds.{HasResource, IsAtMostFound, IsTooHigh}
use Rattle.route_judge.specs.Counts.{listed_prices}
use Rattle.route_judge.specs.Judgements.{IsFound, IsJudged, StatesBound}
use Rattle.route_judge.specs.Objections.{Finds}
use Rattle.route_judge.specs.Orders.{AreRoutes, bound_objections, objections_but_bound, route_objections}
use Rattle.route_judge.proofs.Found.{none_before, none_behind}
use Rattle.route_text.specs.declared.block.Block.{Block}
use Rattle.climb_cli.proofs.VectorCosts.{most_stays, no_resource}

-- ---- what the judge has found

-- nothing is objected to routes and a certificate that are accepted, but for the bound
none_but_bound : (d : Design) (over : List Ground) (blocks : List Block) (cert : Cert) (judged : IsJudged d over blocks cert None)
    → Finds d (objections_but_bound d over blocks cert judged.measure) None
none_but_bound d over blocks cert judged = none_before d (objections_but_bound d over blocks cert judged.measure) (bound_objections cert judged.found) judged.first

-- so the blocks are routes
pub accepted_routes : (d : Design) (over : List Ground) (blocks : List Block) (cert : Cert) → IsJudged d over blocks cert None → AreRoutes d blocks
accepted_routes d over blocks cert judged = none_before d (route_objections d blocks) _ (none_but_bound d over blocks cert judged)

-- and the bound is not too high
not_too_high : (d : Design) (over : List Ground) (blocks : List Block) (cert : Cert) (judged : IsJudged d over blocks cert None)
    → ¬ IsTooHigh d.grid (most_of cert.budget) cert.bound judged.found
not_too_high d over blocks cert judged =
    let last : Finds d (bound_objections cert judged.found) None =
    none_behind d (objections_but_bound d over blocks cert judged.measure) (bound_objections cert judged.found) judged.first in
    ⊎_elim (λ first. absurd (cc first.1)) (λ later. later.0) last

stated_nothing : (g : Grid) (budget : Option ℕ) (stated found : Option Fraction) → ¬ HasResource g budget → ¬ IsTooHigh g budget stated found → stated ≡ None
stated_nothing g budget None found none right = refl
stated_nothing g budget (Some s) found none right = absurd (right (inl none))

-- ---- the order of bounds

-- what is not more than another fraction is at most it
at_most : (f other : Fraction) → ¬ (¬ IsAtMost f other) → IsAtMost f other
at_most f other more = ⊎_elim
    (λ (greater : other.num * f.den < f.num * other.den). absurd (more (λ most. omega (arith, greater, most))))
    (λ most. most)
    (cases_lt (other.num * f.den) (f.num * other.den))

at_most-trans : (f g h : Fraction) → IsAtMost f g → IsAtMost g h → IsAtMost f h
at_most-trans f g h first second = ratio-trans f.num f.den g.num g.den h.num h.den first second (omega (arith, g.lowest.positive))

-- a stated fraction that isn't 0 is at most what was found
found_least : (s : Fraction) (found : Option Fraction) → ¬ ((0 < s.num) × (¬ IsAtMostFound s found)) → 0 < s.num → IsAtMostFound s found
found_least s None right some = right (some, λ none. none)
found_least s (Some h) right some = at_most s h (λ more. right (some, more))

-- no bound is greater than none but none
none_below : (bound other : Option Fraction) → other ≡ None → ¬ IsGreaterBound bound other → bound ≡ None
none_below None other none least = refl
none_below (Some f) None none least = absurd (least tt)
none_below (Some f) (Some h) none least = absurd (cc none)

-- what was found is at most the bound of the given prices, and that at most the answered one
stated_least : (s f : Fraction) (found first : Option Fraction) → IsAtMostFound s found → ((h : Fraction) → found ≡ Some h → IsAtMostFound h first) → ¬ IsGreaterBound first (Some f) → IsAtMost s f
stated_least s f None first low each least = absurd low
stated_least s f (Some h) None low each least = absurd (each h refl)
stated_least s f (Some h) (Some k) low each least = at_most-trans s h f low (at_most-trans h k f (each h refl) (at_most k f least))

nothing_at_most : (s f : Fraction) → s.num ≤ 0 → IsAtMost s f
nothing_at_most s f none =
    let zero_of : s.num ≡ 0 = omega (arith, none) in omega (arith, ap (λ (n : ℕ). n * f.den) zero_of)

not_greater : (g : Grid) (budget : Option ℕ) (stated found first answer : Option Fraction) → ¬ IsTooHigh g budget stated found → ((h : Fraction) → found ≡ Some h → IsAtMostFound h first)
    → ¬ IsGreaterBound first answer → (answer ≡ None → stated ≡ None) → ¬ IsGreaterBound stated answer
not_greater g budget None found first answer right each least unstated = λ greater. greater
not_greater g budget (Some s) found first None right each least unstated = absurd (cc (unstated refl))
not_greater g budget (Some s) found first (Some f) right each least unstated = λ greater. ⊎_elim
    (λ (some : 0 < s.num). greater (stated_least s f found first (found_least s found (λ high. right (inr high)) some) each least))
    (λ none. greater (nothing_at_most s f none))
    (cases_lt 0 s.num)

-- ---- the answer of a climb

candidate_most : (d : Design) (budget : Option Budget) (loads : List ℕ) (steps : List (List (List Piece))) (k : ℕ) → most_of (candidate_budget d budget loads steps k) ≡ most_of budget
candidate_most d budget loads steps zero = refl
candidate_most d budget loads steps (suc before) = most_stays d.grid (climb_vector d (most_of budget) loads steps before) budget

-- a new certificate: the judge says yes to it, its text reads back, its bound is one of the design and not below the old one
pub record IsRightCert (d : Design) (over : List Ground) (blocks : List Block) (old new : Cert) : Type 0 where
  pub not_below : ¬ IsGreaterBound old.bound new.bound
  pub accepted : IsJudged d over blocks new None
  pub reads_back : IsCertOf (cert_text new) new
  pub bounds : StatesBound d new

module _ (d : Design) (cert : Cert) (loads : List ℕ) (turns : ℕ) (climbed : Climbed) (best : IsBestCandidate d (listed_prices d.grid cert.prices) cert.budget loads turns climbed) where
  -- the same wirelength is to be kept
  same_most : most_of climbed.budget ≡ most_of cert.budget
  same_most = ap most_of best.best_budget ∙ candidate_most d cert.budget loads (steps_of climbed) climbed.turn

  -- the bound is that at the answered prices
  is_bound : IsBoundOrNone d climbed.prices.items climbed.budget climbed.bound
  is_bound =
      subst (λ (ps : List ℕ). IsBoundOrNone d ps climbed.budget climbed.bound) (sym best.best_prices)
      (subst (λ (b : Option Budget). IsBoundOrNone d (candidate_prices d (listed_prices d.grid cert.prices) cert.budget loads (steps_of climbed) climbed.turn) b climbed.bound) (sym best.best_budget)
      (best.are_bounds.each climbed.turn climbed.bound best.best.stands))

  -- none is answered only where none is stated: the first turn's prices cost something where there is a resource
  unstated : (over : List Ground) (blocks : List Block) → IsJudged d over blocks cert None → 1 ≤ turns → climbed.bound ≡ None → cert.bound ≡ None
  unstated over blocks judged some none =
      let second = at_place best.bounds 1 (omega (arith, some, best.are_bounds.long)) in
      let too : second.0 ≡ None = none_below second.0 climbed.bound none (best.best.greatest 1 second.0 second.1) in
      let free : IsBoundOrNone d (candidate_prices d (listed_prices d.grid cert.prices) cert.budget loads (steps_of climbed) 1) (candidate_budget d cert.budget loads (steps_of climbed) 1) None =
      subst (λ (b : Option Fraction). IsBoundOrNone d (candidate_prices d (listed_prices d.grid cert.prices) cert.budget loads (steps_of climbed) 1) (candidate_budget d cert.budget loads (steps_of climbed) 1) b) too (best.are_bounds.each 1 second.0 second.1) in
      stated_nothing d.grid (most_of cert.budget) cert.bound judged.found (no_resource d.grid (climb_loads d loads (steps_of climbed) 0) 1 cert.budget free) (not_too_high d over blocks cert judged)

  -- what is stated is at most what the judge found at the given prices, which is the bound of the first candidate
  not_below_given : (over : List Ground) (blocks : List Block) → IsJudged d over blocks cert None → 1 ≤ turns → ¬ IsGreaterBound cert.bound climbed.bound
  not_below_given over blocks judged some =
      let first = at_place best.bounds 0 (omega (arith, best.are_bounds.long)) in
      let found : IsFound d cert judged.found = judged.is_found (none_but_bound d over blocks cert judged) in
      not_greater d.grid (most_of cert.budget) cert.bound judged.found first.0 climbed.bound (not_too_high d over blocks cert judged)
      (λ h is. at_most_found d (listed_prices d.grid cert.prices) cert.budget h first.0 (subst (λ (b : Option Fraction). IsBoundOrNone d (listed_prices d.grid cert.prices) cert.budget b) is found) (best.are_bounds.each 0 first.0 first.1))
      (best.best.greatest 0 first.0 first.1) (unstated over blocks judged some)

  pub right_cert : (over : List Ground) (blocks : List Block) → IsCertWithin cert → IsJudged d over blocks cert None → 1 ≤ turns → ArePricesWith d.grid climbed.prices.items climbed.budget
      → IsRightCert d over blocks cert (with_prices d.grid cert climbed.budget climbed.prices.items climbed.bound)
  right_cert over blocks within judged some priced = record {
    not_below = not_below_given over blocks judged some;
    accepted = accepted_anew d over blocks cert climbed.budget climbed.prices.items climbed.bound judged same_most priced is_bound (unstated over blocks judged some);
    reads_back = reads_back_anew d cert climbed.budget climbed.prices.items climbed.bound within same_most priced is_bound;
    bounds = bounds_anew d cert climbed.budget climbed.prices.items climbed.bound priced is_bound;
  }
