-- A text has one certificate, and the budget that it states is within the limits.
use Rattle.std.proofs.Common.{◌≡◌, ℕ, ◌≤◌, List, Option, Some, None, Ok, IfOk, refl, sym, ◌∙◌, ap, subst}
use Rattle.std.specs.Prelude.{ℤ, codes, pos}
use Rattle.std.specs.Str.Parse.{digits_value}
use Rattle.std.proofs.lemmas.Option.{same_Some}
use Rattle.text_scan.specs.Parts.{or_refuse}
use Rattle.text_scan.specs.Reading.{Reading, whole}
use Rattle.text_scan.specs.Within.{within}
use Rattle.text_scan.proofs.Parts.{IfOk-then, IfOk-behind}
use Rattle.text_scan.proofs.Ranges.{within_bounds}
use Rattle.cert_text.specs.declared.cert.Cert.{Cert}
use Rattle.cert_text.specs.declared.cert_error.CertError.{CertError}
use Rattle.cert_text.specs.declared.cert_error.CertError.TheVariants.{NumberLimit, PriceLimit}
use Rattle.cert_text.specs.declared.stated.Stated.{Stated}
use Rattle.cert_text.specs.declared.version.Version.{Version}
use Rattle.cert_text.specs.declared.version.Version.TheVariants.{One, Two}
use Rattle.cert_text.specs.Certs.{IsCertOf, IsOf, IsValueOf}
use Rattle.cert_text.specs.Limits.{max_stated_count, max_stated_total}
use Rattle.cert_text.specs.CertTokens.{digits_at, fixed_word_at, limited_at}
use Rattle.cert_text.specs.StatedCerts.{budget_at, heading_at, labelled_fraction_at, labelled_number_at, prices_at, stated_at, stated_budget_at, stated_in, text_end_at}
use Rattle.cert_text.specs.declared.ratio.Ratio.{Ratio}
use Rattle.cert_text.proofs.LowestFractions.{only_fraction}
use Rattle.edge_prices.specs.declared.budget.Budget.{Budget}
use Rattle.fractions.specs.declared.fraction.Fraction.{Fraction}
use Rattle.edge_prices.specs.Budgets.{IsWithinLimits}
use Rattle.edge_prices.specs.Limits.{MayBeBudget, max_price}
use Rattle.grid_graph.specs.Limits.{max_budget}

-- ---- one certificate

same_fractions : (stated : Option Ratio) (one other : Option Fraction) → IsValueOf stated one → IsValueOf stated other → one ≡ other
same_fractions None None None first second = refl
same_fractions None None (Some g) first second = absurd second
same_fractions None (Some f) other first second = absurd first
same_fractions (Some ratio) None other first second = absurd first
same_fractions (Some ratio) (Some f) None first second = absurd second
same_fractions (Some ratio) (Some f) (Some g) first second = ap Some (only_fraction ratio.num ratio.den f g first.0 first.1 second.1)

abbrev cert_with : (nets forced overflow wirelength : ℕ) → Option Fraction → Option Fraction → Option Budget → List ℕ → Cert
cert_with nets forced overflow wirelength peak bound budget prices =
    record { nets = nets; forced = forced; overflow = overflow; wirelength = wirelength; peak = peak; bound = bound; budget = budget; prices = prices }

same_certs : (stated : Stated) (one other : Cert) → IsOf stated one → IsOf stated other → one ≡ other
same_certs stated one other first second = λ i. cert_with
    ((first.nets ∙ sym second.nets) i)
    ((first.forced ∙ sym second.forced) i)
    ((first.overflow ∙ sym second.overflow) i)
    ((first.wirelength ∙ sym second.wirelength) i)
    (same_fractions stated.peak one.peak other.peak first.peak second.peak i)
    (same_fractions stated.bound one.bound other.bound first.bound second.bound i)
    ((first.budget ∙ sym second.budget) i)
    ((first.prices ∙ sym second.prices) i)

pub one_cert : (text : List ℕ) (one other : Cert) → IsCertOf text one → IsCertOf text other → one ≡ other
one_cert text one other first second =
    let same : first.0 ≡ second.0 = let both : Ok first.0 ≡ Ok second.0 = sym first.1 ∙ second.1 in cc in
    same_certs second.0 one other (rw same at first.2) second.2

-- ---- its budget

abbrev IsBetween : ℕ → ℕ → ℕ × Reading → Type 0
IsBetween lo hi x = (lo ≤ x.0) × (x.0 ≤ hi)

bounded : (lo hi : ℕ) (z : ℤ) (fault : CertError) (o : Option ℕ) → within lo hi z ≡ o → IfOk (or_refuse o fault) (λ n. (lo ≤ n) × (n ≤ hi))
bounded lo hi z fault None is = tt
bounded lo hi z fault (Some n) is = let inside = within_bounds lo hi z n is in (inside.1, inside.2)

limited_within : (refusal : ℕ → CertError) (lo hi : ℕ) (r : Reading) → IfOk (limited_at refusal lo hi r) (IsBetween lo hi)
unfolding limited_at
limited_within refusal lo hi r =
    IfOk-behind (IsBetween lo hi) (digits_at r) _ (λ token.
    let value = pos (digits_value 10 token.0.bytes) in
    let fault = refusal token.0.place in
    IfOk-then (λ n. (lo ≤ n) × (n ≤ hi)) (IsBetween lo hi) (or_refuse (within lo hi value) fault) _ (bounded lo hi value fault (within lo hi value) refl) (λ n inside. inside))

stated_budget_within : (r : Reading) → IfOk (stated_budget_at r) (λ x. IsWithinLimits (Some x.0))
unfolding stated_budget_at
stated_budget_within r =
    let Q : Budget × Reading → Type 0 = λ x. IsWithinLimits (Some x.0) in
    IfOk-behind Q (fixed_word_at (codes "budget") r) _ (λ word.
    IfOk-then _ Q (limited_at NumberLimit 1 max_budget word.1) _ (limited_within NumberLimit 1 max_budget word.1) (λ most inside.
    IfOk-then _ Q (limited_at PriceLimit 0 max_price most.1) _ (limited_within PriceLimit 0 max_price most.1) (λ price low.
    λ b is. subst (λ (x : Budget). MayBeBudget x.most × (x.price ≤ max_price)) (same_Some _ _ is) (inside, low.1))))

budget_within : (version : Version) (r : Reading) → IfOk (budget_at version r) (λ x. IsWithinLimits x.0)
budget_within One r = λ b is. absurd (cc is)
budget_within Two r = IfOk-then _ (λ x. IsWithinLimits x.0) (stated_budget_at r) _ (stated_budget_within r) (λ budget inside. inside)

stated_within : (r : Reading) → IfOk (stated_at r) (λ x. IsWithinLimits x.0.budget)
unfolding stated_at
stated_within r =
    let Q : Stated × Reading → Type 0 = λ x. IsWithinLimits x.0.budget in
    IfOk-behind Q (heading_at r) _ (λ version.
    IfOk-behind Q (labelled_number_at (codes "nets") max_stated_count version.1) _ (λ nets.
    IfOk-behind Q (labelled_number_at (codes "forced") max_stated_count nets.1) _ (λ forced.
    IfOk-behind Q (labelled_number_at (codes "overflow") max_stated_total forced.1) _ (λ overflow.
    IfOk-behind Q (labelled_number_at (codes "wirelength") max_stated_total overflow.1) _ (λ wirelength.
    IfOk-behind Q (labelled_fraction_at (codes "peak") version.0 wirelength.1) _ (λ peak.
    IfOk-behind Q (labelled_fraction_at (codes "bound") version.0 peak.1) _ (λ bound.
    IfOk-then _ Q (budget_at version.0 bound.1) _ (budget_within version.0 bound.1) (λ budget inside.
    IfOk-behind Q (prices_at budget.1) _ (λ prices.
    IfOk-behind Q (text_end_at prices.1) _ (λ end. inside))))))))))

pub cert_within : (text : List ℕ) (cert : Cert) → IsCertOf text cert → IsWithinLimits cert.budget
cert_within text cert (stated, read, is) =
    let all : IfOk (stated_in text) (λ x. IsWithinLimits x.budget) = IfOk-then _ (λ x. IsWithinLimits x.budget) (stated_at (whole text)) _ (stated_within (whole text)) (λ x inside. inside) in
    let here : IfOk {E = CertError} (Ok stated) (λ x. IsWithinLimits x.budget) = rw read at all in
    subst IsWithinLimits (sym is.budget) here
