-- Where blocks are written for sets of a design and a certificate claims what is true of them, no objection applies.
use Rattle.std.proofs.Common.{◌≡◌, ℕ, ◌<◌, List, ◌++◌, Option, Some, None, refl, sym, ◌∙◌, subst, inr, ⊎_elim, arith}
use Rattle.std.specs.Prelude.{IsSome}
use Rattle.std.proofs.lemmas.Option.{same_Some}
use Rattle.cert_text.specs.declared.cert.Cert.{Cert}
use Rattle.dual_bound.specs.DesignBounds.{IsBoundOrNone}
use Rattle.grid_base.specs.declared.piece.Piece.{Piece}
use Rattle.grid_graph.specs.declared.design.Design.{Design}
use Rattle.grid_graph.specs.declared.ground.Ground.{Ground}
use Rattle.route_text.specs.declared.block.Block.{Block}
use Rattle.edge_prices.specs.declared.budget.Budget.{Budget}
use Rattle.fractions.specs.declared.fraction.Fraction.{Fraction}
use Rattle.tree_set.specs.declared.measure.Measure.{Measure}
use Rattle.edge_prices.specs.Budgets.{IsWithinLimits, most_of}
use Rattle.tree_set.specs.Loads.{load}
use Rattle.tree_set.specs.Measures.{wirelength}
use Rattle.route_judge.specs.Bounds.{HasResource, IsTooHigh}
use Rattle.route_judge.specs.Counts.{listed_prices}
use Rattle.route_judge.specs.Judgements.{IsMeasureWith, IsFound}
use Rattle.route_judge.specs.Measured.{IsMeasureOf}
use Rattle.route_judge.specs.NetSets.{AreSetsOf}
use Rattle.route_judge.specs.Objections.{Finds}
use Rattle.route_judge.specs.Orders.{AreRoutes, route_objections, measure_objections, count_objections, bound_objections, objections_but_bound, all_objections}
use Rattle.route_judge.proofs.Found.{found_behind, found_once}
use Rattle.judge_laws.specs.Meeting.{StatesMeasure, Meet, ClaimsTruly}
use Rattle.judge_laws.proofs.OneBound.{at_most_found}
use Rattle.judge_laws.proofs.OneMeasure.{one_list_of_sets, one_peak}
use Rattle.judge_laws.proofs.Resources.{costly_has_resource}

-- a budget is one piece at least
pub budget_positive : (budget : Option Budget) → IsWithinLimits budget → (most : ℕ) → most_of budget ≡ Some most → 0 < most
budget_positive None within most is = absurd (cc is)
budget_positive (Some b) within most is = omega (arith, (within b refl).0.0, same_Some _ _ is)

-- the measure of sets that blocks give the nets is the one that is claimed
states_measure : (d : Design) (over : List Ground) (trees : List (List Piece)) (blocks : List Block) (cert : Cert) (m : Measure) → AreSetsOf d blocks trees
    → ClaimsTruly d over trees cert → IsMeasureWith d blocks cert m → StatesMeasure cert m
states_measure d over trees blocks cert m sets claims measured =
    let same : measured.0 ≡ trees = one_list_of_sets d blocks measured.0 trees measured.1 sets in
    let is : IsMeasureOf d (most_of cert.budget) trees m = subst (λ ts. IsMeasureOf d (most_of cert.budget) ts m) same measured.2 in
    record {
      overflow_is = claims.overflow_is ∙ sym is.of_overflow;
      wirelength_is = claims.wirelength_is ∙ sym is.of_wirelength;
      peak_is = one_peak d.grid (load d.grid d.nets trees) (wirelength trees) (most_of cert.budget) cert.peak m.peak (budget_positive cert.budget claims.budget) claims.peak is.of_peak;
    }

-- ---- no objection applies

no_claim_wrong : (d : Design) (over : List Ground) (trees : List (List Piece)) (cert : Cert) (m : Measure) → ClaimsTruly d over trees cert → StatesMeasure cert m
    → Finds d (measure_objections cert m ++ count_objections d over cert) None
no_claim_wrong d over trees cert m claims states =
    found_behind d (measure_objections cert m) (count_objections d over cert) None
    (inr (λ differs. differs states.overflow_is, inr (λ differs. differs states.wirelength_is, inr (states.peak_is, refl))))
    (inr (λ differs. differs claims.nets, inr (λ differs. differs claims.forced, inr (λ differs. differs claims.prices, refl))))

not_too_high : (d : Design) (prices : List ℕ) (budget : Option Budget) (bound found : Option Fraction) → (HasResource d.grid (most_of budget) → IsSome bound)
    → IsBoundOrNone d prices budget bound → IsBoundOrNone d prices budget found → ¬ IsTooHigh d.grid (most_of budget) bound found
not_too_high d prices budget None found some is other = λ resource. absurd (cc (some resource))
not_too_high d prices budget (Some f) found some is other = λ high. ⊎_elim
    (λ none. none (costly_has_resource d.grid prices budget is.exists))
    (λ greater. greater.1 (at_most_found d prices budget f found is other))
    high

none_applies : (d : Design) (over : List Ground) (trees : List (List Piece)) (blocks : List Block) (cert : Cert) (m : Measure) (found : Option Fraction)
    → AreRoutes d blocks → ClaimsTruly d over trees cert → StatesMeasure cert m → IsFound d cert found → Finds d (all_objections d over blocks cert m found) None
none_applies d over trees blocks cert m found routes claims states is =
    found_behind d (objections_but_bound d over blocks cert m) (bound_objections cert found) None
    (found_behind d (route_objections d blocks) (measure_objections cert m ++ count_objections d over cert) None routes (no_claim_wrong d over trees cert m claims states))
    (inr (not_too_high d (listed_prices d.grid cert.prices) cert.budget cert.bound found claims.some claims.bound is, refl))

-- so they meet
pub true_claims_meet : (d : Design) (over : List Ground) (trees : List (List Piece)) (blocks : List Block) (cert : Cert) → AreRoutes d blocks → AreSetsOf d blocks trees
    → ClaimsTruly d over trees cert → Meet d over blocks cert
true_claims_meet d over trees blocks cert routes sets claims =
    let claimed : Measure = record { overflow = cert.overflow; wirelength = cert.wirelength; peak = cert.peak } in
    let measure : IsMeasureWith d blocks cert claimed = (trees, sets, record { of_overflow = claims.overflow_is; of_wirelength = claims.wirelength_is; of_peak = claims.peak }) in
    record {
      accepted = record {
        measure = claimed;
        found = cert.bound;
        is_measure = λ _. measure;
        is_found = λ _. claims.bound;
        first = none_applies d over trees blocks cert claimed cert.bound routes claims (states_measure d over trees blocks cert claimed sets claims measure) claims.bound;
      };
      only = λ reason judged.
          let m = judged.measure in
          let states = states_measure d over trees blocks cert m sets claims (judged.is_measure routes) in
          let but_bound : Finds d (objections_but_bound d over blocks cert m) None =
          found_behind d (route_objections d blocks) (measure_objections cert m ++ count_objections d over cert) None routes (no_claim_wrong d over trees cert m claims states) in
          let none = none_applies d over trees blocks cert m judged.found routes claims states (judged.is_found but_bound) in
          found_once d (all_objections d over blocks cert m judged.found) reason None judged.first none;
      measured = λ m measured. states_measure d over trees blocks cert m sets claims measured;
    }
