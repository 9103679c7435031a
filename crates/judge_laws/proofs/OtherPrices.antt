-- A certificate that is accepted stays so with the prices of another list and the bound at these.
use Rattle.std.proofs.Common.{◌≡◌, ℕ, ◌≤◌, List, ◌++◌, Option, Some, None, refl, sym, subst, inr, ⊎_elim, arith}
use Rattle.std.proofs.lemmas.Option.{same_Some}
use Rattle.std.proofs.lemmas.List.FromFn.{length-range_with_len}
use Rattle.std.proofs.lemmas.List.Sums.{count_by-le-length}
use Rattle.std.specs.List.{range_with_len}
use Rattle.cert_text.specs.declared.cert.Cert.{Cert}
use Rattle.cert_text.specs.Certs.{AreFractionsWithin, IsCertOf, IsCertWithin}
use Rattle.cert_text.specs.CertText.{cert_text}
use Rattle.cert_text.specs.Versions.{version_of}
use Rattle.cert_text.proofs.ReadBackCerts.{cert_reads_back}
use Rattle.dual_bound.specs.Bounds.{BoundsDesign}
use Rattle.dual_bound.specs.DesignBounds.{IsBoundOrNone, IsDesignBound}
use Rattle.dual_bound.specs.Prices.{ArePricesWith}
use Rattle.dual_bound.proofs.Bounding.{net_bounds_bound}
use Rattle.edge_prices.specs.Weights.{is_open}
use Rattle.grid_base.specs.declared.piece.Piece.{Piece}
use Rattle.grid_graph.specs.declared.design.Design.{Design}
use Rattle.grid_graph.specs.declared.ground.Ground.{Ground}
use Rattle.grid_graph.specs.Grids.{edge_numbers, size_of}
use Rattle.route_text.specs.declared.block.Block.{Block}
use Rattle.edge_prices.specs.declared.budget.Budget.{Budget}
use Rattle.fractions.specs.declared.fraction.Fraction.{Fraction}
use Rattle.edge_prices.specs.Budgets.{most_of}
use Rattle.route_judge.specs.Bounds.{HasResource, IsTooHigh}
use Rattle.route_judge.specs.Counts.{listed_prices}
use Rattle.route_judge.specs.Judgements.{IsFound, IsJudged, StatesBound}
use Rattle.route_judge.specs.Measured.{IsMeasureOf}
use Rattle.route_judge.specs.NetSets.{AreSetsOf}
use Rattle.route_judge.specs.Objections.{Finds}
use Rattle.route_judge.specs.Orders.{route_objections, measure_objections, count_objections, bound_objections, objections_but_bound}
use Rattle.route_judge.proofs.Found.{found_behind, none_before, none_behind}
use Rattle.judge_laws.specs.OpenPrices.{with_prices}
use Rattle.judge_laws.proofs.CertLimits.{bound_within}
use Rattle.judge_laws.proofs.OneBound.{at_most_found}
use Rattle.judge_laws.proofs.OpenPrices.{listed_count, listed_whole, listed_within}
use Rattle.judge_laws.proofs.Resources.{costly_has_resource}

same_version : (one other : Option Budget) → most_of one ≡ most_of other → version_of one ≡ version_of other
same_version None None same = refl
same_version None (Some b) same = cc
same_version (Some a) None same = cc
same_version (Some a) (Some b) same = refl

-- the counts that are stated are still right
counts_stay : (d : Design) (over : List Ground) (cert : Cert) (budget : Option Budget) (prices : List ℕ) (bound : Option Fraction) → Finds d (count_objections d over cert) None
    → Finds d (count_objections d over (with_prices d.grid cert budget prices bound)) None
counts_stay d over cert budget prices bound none =
    ⊎_elim
    (λ first. absurd (cc first.1))
    (λ nets. ⊎_elim
    (λ first. absurd (cc first.1))
    (λ forced. inr (nets.0, inr (forced.0, inr (λ differs. differs (listed_count d.grid prices), refl))))
    nets.1)
    none

-- a bound is not too high that is found at its prices, nor is none where none was stated before
not_above : (d : Design) (prices : List ℕ) (budget : Option Budget) (found : Option Fraction) → IsBoundOrNone d prices budget found
    → (found ≡ None → ¬ HasResource d.grid (most_of budget)) → ¬ IsTooHigh d.grid (most_of budget) found found
not_above d prices budget None is none = none refl
not_above d prices budget (Some f) is none = λ high. ⊎_elim
    (λ no. no (costly_has_resource d.grid prices budget is.exists))
    (λ greater. greater.1 (at_most_found d prices budget f (Some f) is is))
    high

stated_none : (d : Design) (over : List Ground) (blocks : List Block) (cert : Cert) → IsJudged d over blocks cert None → cert.bound ≡ None → ¬ HasResource d.grid (most_of cert.budget)
stated_none d over blocks cert judged none has =
    let last : Finds d (bound_objections cert judged.found) None =
    none_behind d (objections_but_bound d over blocks cert judged.measure) (bound_objections cert judged.found) judged.first in
    ⊎_elim
    (λ first. absurd (cc first.1))
    (λ later. later.0 (subst (λ (b : Option Fraction). IsTooHigh d.grid (most_of cert.budget) b judged.found) (sym none) has))
    last

-- the judge's answer is a yes as before
pub accepted_anew : (d : Design) (over : List Ground) (blocks : List Block) (cert : Cert) (budget : Option Budget) (prices : List ℕ) (found : Option Fraction) → IsJudged d over blocks cert None
    → most_of budget ≡ most_of cert.budget → ArePricesWith d.grid prices budget → IsBoundOrNone d prices budget found → (found ≡ None → cert.bound ≡ None)
    → IsJudged d over blocks (with_prices d.grid cert budget prices found) None
accepted_anew d over blocks cert budget prices found judged same are is none =
    let m = judged.measure in
    let new = with_prices d.grid cert budget prices found in
    let but_bound : Finds d (objections_but_bound d over blocks cert m) None = none_before d (objections_but_bound d over blocks cert m) (bound_objections cert judged.found) judged.first in
    let claims : Finds d (measure_objections cert m ++ count_objections d over cert) None = none_behind d (route_objections d blocks) (measure_objections cert m ++ count_objections d over cert) but_bound in
    let measured : Finds d (measure_objections new m) None = none_before d (measure_objections cert m) (count_objections d over cert) claims in
    let counted : Finds d (count_objections d over new) None = counts_stay d over cert budget prices found (none_behind d (measure_objections cert m) (count_objections d over cert) claims) in
    let listed : IsFound d new found = subst (λ (ps : List ℕ). IsBoundOrNone d ps budget found) (sym (listed_whole d.grid prices are.edges)) is in
    let unstated : found ≡ None → ¬ HasResource d.grid (most_of budget) =
    λ no. subst (λ (most : Option ℕ). ¬ HasResource d.grid most) (sym same) (stated_none d over blocks cert judged (none no)) in
    record {
      measure = m;
      found = found;
      is_measure = λ routes. subst (λ (most : Option ℕ). (trees : List (List Piece)) × AreSetsOf d blocks trees × IsMeasureOf d most trees m) (sym same) (judged.is_measure routes);
      is_found = λ _. listed;
      first = found_behind d (objections_but_bound d over blocks new m) (bound_objections new found) None
          (found_behind d (route_objections d blocks) (measure_objections new m ++ count_objections d over new) None
          (none_before d (route_objections d blocks) (measure_objections cert m ++ count_objections d over cert) but_bound)
          (found_behind d (measure_objections new m) (count_objections d over new) None measured counted))
          (inr (not_above d (listed_prices d.grid new.prices) budget found listed unstated, refl));
    }

-- and its text reads back
pub reads_back_anew : (d : Design) (cert : Cert) (budget : Option Budget) (prices : List ℕ) (found : Option Fraction) → IsCertWithin cert → most_of budget ≡ most_of cert.budget
    → ArePricesWith d.grid prices budget → IsBoundOrNone d prices budget found
    → IsCertOf (cert_text (with_prices d.grid cert budget prices found)) (with_prices d.grid cert budget prices found)
reads_back_anew d cert budget prices found within same are is = cert_reads_back (with_prices d.grid cert budget prices found) (record {
  nets = within.nets;
  forced = within.forced;
  overflow = within.overflow;
  wirelength = within.wirelength;
  peak = subst (λ version. AreFractionsWithin version cert.peak) (sym (same_version budget cert.budget same)) within.peak;
  bound = bound_within d prices budget found are.edges is;
  budget = are.wirelength;
  few = omega (
    arith,
    listed_count d.grid prices,
    count_by-le-length (is_open d.grid) (range_with_len 0 (edge_numbers d.grid)),
    length-range_with_len 0 (edge_numbers d.grid),
    (size_of d.grid).within.vertex_limit,
  );
  prices = listed_within d.grid prices are.edges.listed;
})

-- and it states a bound
pub bounds_anew : (d : Design) (cert : Cert) (budget : Option Budget) (prices : List ℕ) (found : Option Fraction) → ArePricesWith d.grid prices budget
    → IsBoundOrNone d prices budget found → StatesBound d (with_prices d.grid cert budget prices found)
bounds_anew d cert budget prices None are is h same = cc
bounds_anew d cert budget prices (Some f) are is h same =
    subst (λ (x : Fraction). BoundsDesign d (most_of budget) x.num x.den) (same_Some f h same)
    (net_bounds_bound d prices budget is.total f.num f.den are is.exists is.is_total f.lowest.positive (omega (arith, is.ratio)))
