-- The new certificate is accepted, whether it is the old one or another.
use Rattle.std.proofs.Common.{◌≡◌, ◌≤◌, ℕ, List, Option, Some, None, refl, sym, ◌∙◌, ap, subst, arith, inl, inr}
use Rattle.std.proofs.lemmas.Option.{same_Some}
use Rattle.cert_text.specs.declared.cert.Cert.{Cert}
use Rattle.cert_text.specs.Certs.{IsCertOf, IsCertWithin}
use Rattle.cert_text.specs.CertText.{cert_text}
use Rattle.cert_text.proofs.ReadBackCerts.{cert_reads_back}
use Rattle.dual_bound.specs.DesignBounds.{IsBoundOrNone}
use Rattle.dual_bound.specs.Prices.{ArePricesWith, free_budget}
use Rattle.edge_prices.specs.Weights.{AreEdgePrices}
use Rattle.grid_graph.specs.declared.design.Design.{Design}
use Rattle.grid_graph.specs.declared.ground.Ground.{Ground}
use Rattle.judge_laws.specs.OpenPrices.{with_prices}
use Rattle.judge_laws.proofs.OtherPrices.{accepted_anew, bounds_anew, reads_back_anew}
use Rattle.route_judge.specs.Judgements.{IsJudged, StatesBound}
use Rattle.route_text.specs.declared.block.Block.{Block}
use Rattle.edge_prices.specs.declared.budget.Budget.{Budget}
use Rattle.fractions.specs.declared.fraction.Fraction.{Fraction}
use Rattle.edge_prices.specs.Budgets.{IsWithinLimits, most_of}
use Rattle.edge_prices.specs.Limits.{MayBeBudget, max_price}
use Rattle.unavoidable_cli.specs.declared.priced_edge.PricedEdge.{PricedEdge}
use Rattle.unavoidable_cli.specs.Findings.{IsAbove, IsSameOrBetter}

-- the judge says yes to the certificate, its text reads back, and every mixture of routings uses some resource at its bound or more
pub record IsAcceptedCert (d : Design) (over : List Ground) (blocks : List Block) (cert : Cert) : Type 0 where
  pub judged : IsJudged d over blocks cert None
  pub reads_back : IsCertOf (cert_text cert) cert
  pub bounds : StatesBound d cert

-- a bound that is above another is one
stated : (bound other : Option Fraction) → IsAbove bound other → (f : Fraction) × (bound ≡ Some f)
stated None other above = absurd above
stated (Some f) other above = (f, refl)

-- it is to keep the same wirelength
same_most : (budget : Option Budget) → most_of (free_budget (most_of budget)) ≡ most_of budget
same_most None = refl
same_most (Some b) = refl

free_within : (budget : Option Budget) → IsWithinLimits budget → IsWithinLimits (free_budget (most_of budget))
free_within None within b is = absurd (cc is)
free_within (Some b) within f is =
    let free : Budget = record { most = b.most; price = 0 } in
    subst (λ (x : Budget). MayBeBudget x.most × (x.price ≤ max_price)) (same_Some free f is) ((within b refl).0, omega arith)

-- a certificate with the prices of a list, where a wirelength that is to be kept costs nothing, and the bound at these
accepted-with : (d : Design) (over : List Ground) (blocks : List Block) (old : Cert) (prices : List ℕ) (f : Fraction) → IsCertWithin old → IsJudged d over blocks old None
    → AreEdgePrices d.grid prices → IsBoundOrNone d prices (free_budget (most_of old.budget)) (Some f)
    → IsAcceptedCert d over blocks (with_prices d.grid old (free_budget (most_of old.budget)) prices (Some f))
accepted-with d over blocks old prices f within judged are is =
    let budget = free_budget (most_of old.budget) in
    let priced : ArePricesWith d.grid prices budget = record { edges = are; wirelength = free_within old.budget within.budget } in
    record {
      judged = accepted_anew d over blocks old budget prices (Some f) judged (same_most old.budget) priced is (λ none. cc);
      reads_back = reads_back_anew d old budget prices (Some f) within (same_most old.budget) priced is;
      bounds = bounds_anew d old budget prices (Some f) priced is;
    }

pub accepted-new : (d : Design) (over : List Ground) (blocks : List Block) (old new : Cert) (edges : List PricedEdge) (least : ℕ) → IsCertWithin old → IsJudged d over blocks old None
    → StatesBound d old → IsSameOrBetter d old new edges least → IsAcceptedCert d over blocks new
accepted-new d over blocks old new edges least within judged bounds (inl same) =
    subst (λ (x : Cert). IsAcceptedCert d over blocks x) (sym same.0) (record { judged = judged; reads_back = cert_reads_back old within; bounds = bounds })
accepted-new d over blocks old new edges least within judged bounds (inr better) =
    let of = stated new.bound old.bound better.above in
    let f : Fraction = of.0 in
    let budget_is : new.budget ≡ free_budget (most_of old.budget) = ap (λ (c : Cert). c.budget) better.is_new in
    let is : IsBoundOrNone d better.prices (free_budget (most_of old.budget)) (Some f) =
    subst (λ (b : Option Budget). IsBoundOrNone d better.prices b (Some f)) budget_is (subst (λ (b : Option Fraction). IsBoundOrNone d better.prices new.budget b) of.1 better.is_bound) in
    let whole : new ≡ with_prices d.grid old (free_budget (most_of old.budget)) better.prices (Some f) =
    better.is_new ∙ ap (λ (b : Option Fraction). with_prices d.grid old (free_budget (most_of old.budget)) better.prices b) of.1 in
    subst (λ (x : Cert). IsAcceptedCert d over blocks x) (sym whole) (accepted-with d over blocks old better.prices f within judged better.pricing.1.are_prices is)
