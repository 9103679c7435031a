-- The verdict, by what the steps of the judge stop for; and that a bound that isn't too high bounds the design.
use Rattle.std.proofs.Common.{◌≡◌, ℕ, ◌+◌, ◌*◌, ◌<◌, ◌≤◌, List, ◌++◌, length, Option, None, Some, refl, sym, subst, inr, ⊎_elim, arith}
use Rattle.std.specs.Prelude.{IfSome, IsSome}
use Rattle.std.proofs.Math.Nat.{mul-le-mul_right, mul-le-mul_left}
use Rattle.std.proofs.lemmas.Bool.{cases_lt}
use Rattle.cert_text.specs.declared.cert.Cert.{Cert}
use Rattle.dual_bound.specs.Bounds.{BoundsDesign}
use Rattle.dual_bound.proofs.Duality.{nothing_bounds}
use Rattle.grid_graph.specs.declared.design.Design.{Design}
use Rattle.grid_graph.specs.declared.ground.Ground.{Ground}
use Rattle.route_text.specs.declared.block.Block.{Block}
use Rattle.fractions.specs.declared.fraction.Fraction.{Fraction}
use Rattle.tree_set.specs.declared.measure.Measure.{Measure}
use Rattle.edge_prices.specs.Budgets.{most_of}
use Rattle.route_judge.specs.declared.reason.Reason.{Reason}
use Rattle.route_judge.specs.declared.stop.Stop.{Stop}
use Rattle.route_judge.specs.declared.stop.Stop.TheVariants.{Refused, NoMemory}
use Rattle.route_judge.specs.Bounds.{HasResource, IsTooHigh}
use Rattle.route_judge.specs.Judgements.{IsJudged, IsJudgedFor, IsMeasureWith, IsFound, StatesBound}
use Rattle.route_judge.specs.Measured.{AreMeasured}
use Rattle.route_judge.specs.Objections.{Objection, Finds}
use Rattle.route_judge.specs.Orders.{AreRoutes, route_objections, measure_objections, count_objections, bound_objections}
use Rattle.route_judge.specs.Stops.{StopsFor}
use Rattle.route_judge.proofs.Found.{found_before, found_behind, found_once}

-- what is objected first isn't nothing
something : (d : Design) (xs : List Objection) (reason : Reason) → Finds d xs (Some reason) → ¬ Finds d xs None
something d xs reason found = λ none. let same : None ≡ Some reason = found_once d xs None (Some reason) none found in cc same

-- no measure is asked of blocks that are no routes
no_measure : Measure
no_measure = record { overflow = 0; wirelength = 0; peak = None }

-- against the routes
pub judged_by_routes : (d : Design) (over : List Ground) (blocks : List Block) (cert : Cert) (stop : Stop) → StopsFor d (route_objections d blocks) stop → IsJudgedFor d over blocks cert stop
judged_by_routes d over blocks cert (Refused reason) found =
    let claims = measure_objections cert no_measure ++ count_objections d over cert in
    let but_bound = found_before d (route_objections d blocks) claims reason found in
    record {
      measure = no_measure;
      found = None;
      is_measure = λ routes. absurd (something d (route_objections d blocks) reason found routes);
      is_found = λ none. absurd (something d (route_objections d blocks ++ claims) reason but_bound none);
      first = found_before d (route_objections d blocks ++ claims) (bound_objections cert None) reason but_bound;
    }
judged_by_routes d over blocks cert NoMemory found = tt

measure_with : (d : Design) (over : List Ground) (blocks : List Block) (cert : Cert) (m : Measure) (beyond : ℕ) → AreMeasured d over blocks (most_of cert.budget) m beyond → IsMeasureWith d blocks cert m
measure_with d over blocks cert m beyond measured = (measured.trees, measured.sets, measured.measure)

-- against what the certificate states of them and of the design
pub judged_by_claims : (d : Design) (over : List Ground) (blocks : List Block) (cert : Cert) (m : Measure) (beyond : ℕ) (stop : Stop) → AreRoutes d blocks → AreMeasured d over blocks (most_of cert.budget) m beyond → StopsFor d (measure_objections cert m ++ count_objections d over cert) stop → IsJudgedFor d over blocks cert stop
judged_by_claims d over blocks cert m beyond (Refused reason) routes measured found =
    let claims = measure_objections cert m ++ count_objections d over cert in
    let but_bound = found_behind d (route_objections d blocks) claims (Some reason) routes found in
    record {
      measure = m;
      found = None;
      is_measure = λ _. measure_with d over blocks cert m beyond measured;
      is_found = λ none. absurd (something d (route_objections d blocks ++ claims) reason but_bound none);
      first = found_before d (route_objections d blocks ++ claims) (bound_objections cert None) reason but_bound;
    }
judged_by_claims d over blocks cert m beyond NoMemory routes measured found = tt

-- against its bound, or not at all
pub judged_by_bound : (d : Design) (over : List Ground) (blocks : List Block) (cert : Cert) (m : Measure) (beyond : ℕ) (found : Option Fraction) (reason : Option Reason) → AreRoutes d blocks → AreMeasured d over blocks (most_of cert.budget) m beyond → Finds d (measure_objections cert m ++ count_objections d over cert) None → IsFound d cert found → Finds d (bound_objections cert found) reason → IsJudged d over blocks cert reason
judged_by_bound d over blocks cert m beyond found reason routes measured none is_found at =
    let claims = measure_objections cert m ++ count_objections d over cert in
    record {
      measure = m;
      found = found;
      is_measure = λ _. measure_with d over blocks cert m beyond measured;
      is_found = λ _. is_found;
      first = found_behind d (route_objections d blocks ++ claims) (bound_objections cert found) reason (found_behind d (route_objections d blocks) claims None routes none) at;
    }

pub stopped_by_bound : (d : Design) (over : List Ground) (blocks : List Block) (cert : Cert) (m : Measure) (beyond : ℕ) (found : Option Fraction) (stop : Stop) → AreRoutes d blocks → AreMeasured d over blocks (most_of cert.budget) m beyond → Finds d (measure_objections cert m ++ count_objections d over cert) None → IsFound d cert found → StopsFor d (bound_objections cert found) stop → IsJudgedFor d over blocks cert stop
stopped_by_bound d over blocks cert m beyond found (Refused reason) routes measured none is_found at = judged_by_bound d over blocks cert m beyond found (Some reason) routes measured none is_found at
stopped_by_bound d over blocks cert m beyond found NoMemory routes measured none is_found at = tt

-- a factor is taken away from both sides
shorter : (x y k : ℕ) → 1 ≤ k → x * k ≤ y * k → x ≤ y
shorter x y k positive order =
    ⊎_elim
    (λ (greater : y < x). let more : (y + 1) * k ≤ x * k = mul-le-mul_right k (omega (arith, greater)) in absurd (omega (arith, more, order, positive)))
    (λ (at_most : x ≤ y). at_most)
    (cases_lt y x)

-- a smaller ratio holds where a greater one does
smaller_ratio : (a b c e k l : ℕ) → 1 ≤ e → a * e ≤ c * b → c * k ≤ e * l → a * k ≤ b * l
smaller_ratio a b c e k l positive smaller holds =
    let first : a * e * k ≤ c * b * k = mul-le-mul_right k smaller in
    let second : b * (c * k) ≤ b * (e * l) = mul-le-mul_left b holds in
    shorter (a * k) (b * l) e positive (omega (arith, first, second))

ratio_of_use : (a b c e count k l : ℕ) → 1 ≤ e → a * e ≤ c * b → c * count * k ≤ e * l → a * count * k ≤ b * l
ratio_of_use a b c e count k l positive smaller holds =
    let used : c * (count * k) ≤ e * l = omega (arith, holds) in
    let scaled : a * (count * k) ≤ b * l = smaller_ratio a b c e (count * k) l positive smaller used in
    omega (arith, scaled)

pub smaller_bounds : (d : Design) (budget : Option ℕ) (a b c e : ℕ) → 1 ≤ b → a * e ≤ c * b → BoundsDesign d budget c e → BoundsDesign d budget a b
smaller_bounds d budget a b c e positive smaller bound = record {
  positive = positive;
  every = λ routings mixture.
      let used = bound.every routings mixture in (
        used.0,
        record { resource = used.1.resource; used = ratio_of_use a b c e (length routings) _ _ bound.positive smaller used.1.used },
      );
}

-- where the bound isn't objected to, it isn't too high
not_too_high : (d : Design) (cert : Cert) (found : Option Fraction) → Finds d (bound_objections cert found) None → ¬ IsTooHigh d.grid (most_of cert.budget) cert.bound found
not_too_high d cert found none = ⊎_elim (λ first. absurd (cc (first.1))) (λ later. later.0) none

bounded_by_found : (d : Design) (budget : Option ℕ) (f : Fraction) (found : Option Fraction) → 0 < f.num → ¬ IsTooHigh d.grid budget (Some f) found → IfSome found (λ g. BoundsDesign d budget g.num g.den) → BoundsDesign d budget f.num f.den
bounded_by_found d budget f None some not_high bounds = absurd (not_high (inr (some, λ at_most. at_most)))
bounded_by_found d budget f (Some g) some not_high bounds =
    ⊎_elim
    (λ (greater : g.num * f.den < f.num * g.den). absurd (not_high (inr (some, λ at_most. omega (arith, greater, at_most)))))
    (λ (smaller : f.num * g.den ≤ g.num * f.den). smaller_bounds d budget f.num f.den g.num g.den f.lowest.positive smaller bounds)
    (cases_lt (g.num * f.den) (f.num * g.den))

-- so it bounds the design
pub states_bound : (d : Design) (cert : Cert) (found : Option Fraction) → Finds d (bound_objections cert found) None → (IsSome cert.bound → HasResource d.grid (most_of cert.budget)) → IfSome found (λ g. BoundsDesign d (most_of cert.budget) g.num g.den) → StatesBound d cert
states_bound d cert found none resource bounds f is =
    let budget = most_of cert.budget in
    let not_high : ¬ IsTooHigh d.grid budget (Some f) found = subst (λ s. ¬ IsTooHigh d.grid budget s found) is (not_too_high d cert found none) in
    ⊎_elim
    (λ (some : 0 < f.num). bounded_by_found d budget f found some not_high bounds)
    (λ (at_most : f.num ≤ 0).
    let zero : f.num ≡ 0 = omega (arith, at_most) in
    let has = resource (subst IsSome (sym is) refl) in
    subst (λ n. BoundsDesign d budget n f.den) (sym zero) (nothing_bounds d budget has.0 f.den has.1 f.lowest.positive))
    (cases_lt 0 f.num)
