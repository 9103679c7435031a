-- Reading back a written certificate, line by line.
use Rattle.std.proofs.Common.{◌≡◌, ℕ, ◌+◌, ◌<◌, ◌≤◌, ◌^◌, true, List, [], ◌∷◌, ◌++◌, length, All, refl, sym, ap, ◌∙◌, arith, append_assoc, Ok}
use Rattle.std.specs.Prelude.{Result, codes, decimal, flat_map, Option, Some, None, option_map}
use Rattle.std.proofs.lemmas.List.Elements.{All-head, All-tail}
use Rattle.grid_graph.specs.Limits.{max_budget}
use Rattle.text_scan.specs.Parts.{parts_at}
use Rattle.text_scan.specs.Reading.{Reading, whole, left, past_blanks}
use Rattle.text_scan.specs.Tokens.{is_word}
use Rattle.text_scan.proofs.Texts.{Leads, leads-then, gap_is_left}
use Rattle.edge_prices.specs.Budgets.{IsWithinLimits}
use Rattle.edge_prices.specs.Limits.{max_price}
use Rattle.edge_prices.specs.declared.budget.Budget.{Budget}
use Rattle.fractions.specs.declared.fraction.Fraction.{Fraction}
use Rattle.cert_text.specs.declared.cert.Cert.{Cert}
use Rattle.cert_text.specs.declared.cert_error.CertError.TheVariants.{PriceLimit, NumberLimit}
use Rattle.cert_text.specs.declared.ratio.Ratio.{Ratio}
use Rattle.cert_text.specs.declared.stated.Stated.{Stated}
use Rattle.cert_text.specs.declared.version.Version.{Version}
use Rattle.cert_text.specs.CertText.{labelled, fraction_text, budget_text, price_text, cert_text}
use Rattle.cert_text.specs.CertTokens.{limited_at}
use Rattle.cert_text.specs.Certs.{IsValueOf, IsOf, IsCertOf, AreFractionsWithin, IsCertWithin}
use Rattle.cert_text.specs.Limits.{max_stated_count, max_stated_total, max_stated_price}
use Rattle.cert_text.specs.StatedCerts.{heading_at, labelled_number_at, labelled_fraction_at, stated_budget_at, budget_at, prices_at, text_end_at, stated_at}
use Rattle.cert_text.specs.Versions.{version_text, version_of}
use Rattle.cert_text.proofs.LowestFractions.{only_fraction}
use Rattle.cert_text.proofs.ReadBackTokens.{word_is_found, fixed_word_leads, version_is_word, version_leads, printed, limited_leads, fraction_is_word, fraction_leads, ratio_of}

-- the first line
heading_leads : (v : Version) (r : Reading) (rest : List ℕ) → left r ≡ codes "grouter" ++ (32 ∷ (codes "certificate" ++ (32 ∷ (version_text v ++ (10 ∷ rest))))) → Leads (heading_at r) v (10 ∷ rest)
unfolding heading_at
heading_leads v r rest here =
    leads-then _ (fixed_word_leads (codes "grouter") r _ (word_is_found r [] (codes "grouter") _ refl refl refl here)) (λ r1 here1.
    leads-then _ (fixed_word_leads (codes "certificate") r1 _ (word_is_found r1 (32 ∷ []) (codes "certificate") _ refl refl refl here1)) (λ r2 here2.
    version_leads v r2 (10 ∷ rest) (word_is_found r2 (32 ∷ []) (version_text v) (10 ∷ rest) refl (version_is_word v) refl here2)))

-- a label and a number
labelled_number_leads : (label : List ℕ) (most n : ℕ) (r : Reading) (rest : List ℕ) → is_word label ≡ true → n ≤ most → most < 2 ^ 71 →
    left r ≡ 10 ∷ (label ++ (32 ∷ (decimal n ++ (10 ∷ rest)))) → Leads (labelled_number_at label most r) n (10 ∷ rest)
unfolding labelled_number_at
labelled_number_leads label most n r rest is below small here =
    leads-then _ (fixed_word_leads label r _ (word_is_found r (10 ∷ []) label _ refl is refl here)) (λ r1 here1.
    limited_leads NumberLimit 0 most n r1 (10 ∷ rest) (omega arith) below small
    (word_is_found r1 (32 ∷ []) (decimal n) (10 ∷ rest) refl (printed n (omega (arith, below, small))).word refl here1))

-- a label and a fraction
labelled_fraction_leads : (label : List ℕ) (v : Version) (f : Option Fraction) (r : Reading) (rest : List ℕ) → is_word label ≡ true → AreFractionsWithin v f →
    left r ≡ 10 ∷ (label ++ (32 ∷ (fraction_text f ++ (10 ∷ rest)))) → Leads (labelled_fraction_at label v r) (option_map ratio_of f) (10 ∷ rest)
unfolding labelled_fraction_at
labelled_fraction_leads label v f r rest is within here =
    leads-then _ (fixed_word_leads label r _ (word_is_found r (10 ∷ []) label _ refl is refl here)) (λ r1 here1.
    fraction_leads v f r1 (10 ∷ rest) within (word_is_found r1 (32 ∷ []) (fraction_text f) (10 ∷ rest) refl (fraction_is_word v f within) refl here1))

budget_parts : (most price rest : List ℕ) → labelled (codes "budget") (most ++ codes " " ++ price) ++ rest ≡ codes "budget" ++ (32 ∷ (most ++ (32 ∷ (price ++ (10 ∷ rest)))))
budget_parts most price rest = simp append_assoc

-- the line of the budget
stated_budget_leads : (b : Budget) (r : Reading) (rest : List ℕ) → IsWithinLimits (Some b) → left r ≡ 10 ∷ (budget_text (Some b) ++ rest) → Leads (stated_budget_at r) b (10 ∷ rest)
unfolding stated_budget_at
stated_budget_leads b r rest within here =
    let limits = within b refl in
    let parts = here ∙ ap (λ bytes. 10 ∷ bytes) (budget_parts (decimal b.most) (decimal b.price) rest) in
    leads-then _ (fixed_word_leads (codes "budget") r _ (word_is_found r (10 ∷ []) (codes "budget") _ refl refl refl parts)) (λ r1 here1.
    leads-then _ (limited_leads NumberLimit 1 max_budget b.most r1 _ limits.0.0 limits.0.1 (omega arith)
    (word_is_found r1 (32 ∷ []) (decimal b.most) _ refl (printed b.most (omega (arith, limits.0.1))).word refl here1)) (λ r2 here2.
    leads-then _ (limited_leads PriceLimit 0 max_price b.price r2 _ (omega arith) limits.1 (omega arith)
    (word_is_found r2 (32 ∷ []) (decimal b.price) _ refl (printed b.price (omega (arith, limits.1))).word refl here2)) (λ r3 here3.
    record { after = r3; reads = refl; leaves = here3 })))

-- where there is one
budget_leads : (b : Option Budget) (r : Reading) (rest : List ℕ) → IsWithinLimits b → left r ≡ 10 ∷ (budget_text b ++ rest) → Leads (budget_at (version_of b) r) b (10 ∷ rest)
budget_leads None r rest within here = record { after = r; reads = refl; leaves = here }
budget_leads (Some b) r rest within here =
    leads-then _ (stated_budget_leads b r rest within here) (λ r1 here1. record { after = r1; reads = refl; leaves = here1 })

-- the lines of prices
prices_lead : (prices : List ℕ) (i : ℕ) (r : Reading) → All (λ price. price ≤ max_stated_price) prices → left r ≡ 10 ∷ flat_map price_text prices →
    Leads (parts_at (λ _. limited_at PriceLimit 0 max_stated_price) i (length prices) r) prices (10 ∷ [])
prices_lead [] i r within here = record { after = r; reads = refl; leaves = here }
prices_lead (p ∷ ps) i r within here =
    let below : p ≤ max_stated_price = All-head (λ (price : ℕ). price ≤ max_stated_price) p ps within in
    let parts = here ∙ ap (λ bytes. 10 ∷ bytes) (append_assoc (decimal p) (10 ∷ []) (flat_map price_text ps)) in
    leads-then _ (limited_leads PriceLimit 0 max_stated_price p r _ (omega arith) below (omega arith)
    (word_is_found r (10 ∷ []) (decimal p) _ refl (printed p (omega (arith, below))).word refl parts)) (λ r1 here1.
    leads-then _ (prices_lead ps (i + 1) r1 (All-tail (λ (price : ℕ). price ≤ max_stated_price) p ps within) here1) (λ r2 here2.
    record { after = r2; reads = refl; leaves = here2 }))

all_prices_lead : (prices : List ℕ) (r : Reading) → length prices ≤ max_stated_count → All (λ price. price ≤ max_stated_price) prices →
    left r ≡ 10 ∷ (codes "prices" ++ (32 ∷ (decimal (length prices) ++ (10 ∷ flat_map price_text prices)))) → Leads (prices_at r) prices (10 ∷ [])
unfolding prices_at
all_prices_lead prices r few within here =
    leads-then _ (labelled_number_leads (codes "prices") max_stated_count (length prices) r _ refl few (omega arith) here) (λ r1 here1.
    prices_lead prices 0 r1 within here1)

-- the end
text_end_leads : (r : Reading) → left r ≡ 10 ∷ [] → Leads (text_end_at r) tt []
text_end_leads r here = let over = gap_is_left r (10 ∷ []) refl here in record { after = past_blanks r; reads = rw over.0 refl; leaves = over.1 }

-- a certificate's text, line by line
lines : (l0 t0 l1 t1 l2 t2 l3 t3 l4 t4 l5 t5 l6 t6 budget l7 t7 prices : List ℕ) →
    labelled l0 t0 ++ labelled l1 t1 ++ labelled l2 t2 ++ labelled l3 t3 ++ labelled l4 t4 ++ labelled l5 t5 ++ labelled l6 t6 ++ budget ++ labelled l7 t7 ++ prices
    ≡ l0 ++ (32 ∷ (t0 ++ (10 ∷ (l1 ++ (32 ∷ (t1 ++ (10 ∷ (l2 ++ (32 ∷ (t2 ++ (10 ∷ (l3 ++ (32 ∷ (t3 ++ (10 ∷ (l4 ++ (32 ∷ (t4 ++ (10 ∷ (l5 ++ (32 ∷ (t5 ++ (10 ∷ (l6 ++ (32 ∷ (t6 ++ (10 ∷ (budget ++ (l7 ++ (32 ∷ (t7 ++ (10 ∷ prices))))))))))))))))))))))))))))))))
lines l0 t0 l1 t1 l2 t2 l3 t3 l4 t4 l5 t5 l6 t6 budget l7 t7 prices = simp append_assoc

-- what the text of a certificate states
abbrev stated_of : Cert → Stated
stated_of cert = record {
  nets = cert.nets;
  forced = cert.forced;
  overflow = cert.overflow;
  wirelength = cert.wirelength;
  peak = option_map ratio_of cert.peak;
  bound = option_map ratio_of cert.bound;
  budget = cert.budget;
  prices = cert.prices;
}

stated_leads : (cert : Cert) → IsCertWithin cert → (r : Reading) → left r ≡ cert_text cert → Leads (stated_at r) (stated_of cert) []
unfolding stated_at
stated_leads cert within r here =
    let v = version_of cert.budget in
    let parts = here ∙ lines (codes "grouter certificate") (version_text v) (codes "nets") (decimal cert.nets) (codes "forced") (decimal cert.forced) (codes "overflow") (decimal cert.overflow)
    (codes "wirelength") (decimal cert.wirelength) (codes "peak") (fraction_text cert.peak) (codes "bound") (fraction_text cert.bound) (budget_text cert.budget)
    (codes "prices") (decimal (length cert.prices)) (flat_map price_text cert.prices) in
    leads-then _ (heading_leads v r _ parts) (λ r1 here1.
    leads-then _ (labelled_number_leads (codes "nets") max_stated_count cert.nets r1 _ refl within.nets (omega arith) here1) (λ r2 here2.
    leads-then _ (labelled_number_leads (codes "forced") max_stated_count cert.forced r2 _ refl within.forced (omega arith) here2) (λ r3 here3.
    leads-then _ (labelled_number_leads (codes "overflow") max_stated_total cert.overflow r3 _ refl within.overflow (omega arith) here3) (λ r4 here4.
    leads-then _ (labelled_number_leads (codes "wirelength") max_stated_total cert.wirelength r4 _ refl within.wirelength (omega arith) here4) (λ r5 here5.
    leads-then _ (labelled_fraction_leads (codes "peak") v cert.peak r5 _ refl within.peak here5) (λ r6 here6.
    leads-then _ (labelled_fraction_leads (codes "bound") v cert.bound r6 _ refl within.bound here6) (λ r7 here7.
    leads-then _ (budget_leads cert.budget r7 _ within.budget here7) (λ r8 here8.
    leads-then _ (all_prices_lead cert.prices r8 within.few within.prices here8) (λ r9 here9.
    leads-then _ (text_end_leads r9 here9) (λ r10 here10.
    record { after = r10; reads = refl; leaves = here10 }))))))))))

own_value : (f : Option Fraction) → IsValueOf (option_map ratio_of f) f
own_value None = tt
own_value (Some f) = (f.lowest.positive, refl)

-- a written certificate reads back
pub cert_reads_back : (cert : Cert) → IsCertWithin cert → IsCertOf (cert_text cert) cert
cert_reads_back cert within =
    let read = stated_leads cert within (whole (cert_text cert)) refl in (
      stated_of cert,
      rw read.reads refl,
      record { nets = refl; forced = refl; overflow = refl; wirelength = refl; peak = own_value cert.peak; bound = own_value cert.bound; budget = refl; prices = refl },
    )

only_value : (stated : Option Ratio) (f g : Option Fraction) → IsValueOf stated f → IsValueOf stated g → f ≡ g
only_value None None None one other = refl
only_value None None (Some g) one other = absurd other
only_value None (Some f) g one other = absurd one
only_value (Some ratio) None g one other = absurd one
only_value (Some ratio) (Some f) None one other = absurd other
only_value (Some ratio) (Some f) (Some g) one other = ap (λ (x : Fraction). Some x) (only_fraction ratio.num ratio.den f g one.0 one.1 other.1)

abbrev cert_with : (nets forced overflow wirelength : ℕ) → (peak bound : Option Fraction) → Option Budget → List ℕ → Cert
cert_with nets forced overflow wirelength peak bound budget prices =
    record { nets = nets; forced = forced; overflow = overflow; wirelength = wirelength; peak = peak; bound = bound; budget = budget; prices = prices }

-- two certificates of what is stated are one
only_of : (stated : Stated) (one other : Cert) → IsOf stated one → IsOf stated other → one ≡ other
only_of stated one other a b =
    let nets : one.nets ≡ other.nets = a.nets ∙ sym b.nets in
    let forced : one.forced ≡ other.forced = a.forced ∙ sym b.forced in
    let overflow : one.overflow ≡ other.overflow = a.overflow ∙ sym b.overflow in
    let wirelength : one.wirelength ≡ other.wirelength = a.wirelength ∙ sym b.wirelength in
    let peak : one.peak ≡ other.peak = only_value stated.peak one.peak other.peak a.peak b.peak in
    let bound : one.bound ≡ other.bound = only_value stated.bound one.bound other.bound a.bound b.bound in
    let budget : one.budget ≡ other.budget = a.budget ∙ sym b.budget in
    let prices : one.prices ≡ other.prices = a.prices ∙ sym b.prices in
    let same : cert_with one.nets one.forced one.overflow one.wirelength one.peak one.bound one.budget one.prices
    ≡ cert_with other.nets other.forced other.overflow other.wirelength other.peak other.bound other.budget other.prices =
    rw (nets, forced, overflow, wirelength, peak, bound, budget, prices) refl in
    same

-- a text has one certificate
pub only_cert : (text : List ℕ) (one other : Cert) → IsCertOf text one → IsCertOf text other → one ≡ other
only_cert text one other a b =
    let same : a.0 ≡ b.0 = same_stated (sym a.1 ∙ b.1) in
    only_of b.0 one other (rw same at a.2) b.2
  where
    same_stated : {F : Type 0} {x y : Stated} → ◌≡◌ {A = Result Stated F} (Ok x) (Ok y) → x ≡ y
    same_stated same = cc
