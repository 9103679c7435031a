-- The exchange of links: a tree that grows by the nearest terminal weighs at most what each set of links weighs that
-- connects the terminals.
use Rattle.std.proofs.Common.{◌≡◌, ℕ, suc, ◌+◌, ◌≤◌, ◌⊎◌, List, [], ◌∷◌, refl, sym, ◌∙◌, ap, subst, inl, inr, ⊎_elim, arith}
use Rattle.std.specs.List.{Contains, remove}
use Rattle.std.proofs.lemmas.List.Sums.{sum_by-cons}
use Rattle.std.proofs.lemmas.List.Sorted.{IsPermutation-remove, IsPermutation-sym, Contains-permutation, sum_by-IsPermutation}
use Rattle.grid_base.proofs.Lists.{head_or_rest}
use Rattle.shortest_paths.specs.Spanning.{Link, AreLinkEnds, LeadTo, links_weight}
use Rattle.steiner_span.specs.Exchanges.{LedTo, IsExchanged}

-- what is reached, and one vertex more
abbrev pub OrAlso : (ℕ → Type 0) → ℕ → ℕ → Type 0
OrAlso R t v = R v ⊎ (v ≡ t)

-- links without one of them
record WithoutOne (links : List Link) (one : Link) : Type 0 where
  rest : List Link
  weighs : links_weight links ≡ one.distance + links_weight rest
  kept : (link : Link) → Contains rest link → Contains links link
  only : (link : Link) → Contains links link → (link ≡ one) ⊎ Contains rest link

without_one : (links : List Link) (one : Link) → Contains links one → WithoutOne links one
without_one links one at =
    let moved = IsPermutation-remove links at.0 one at.1 (sym at.2) in
    let rest = remove links at.0 in
    record {
      rest = rest;
      weighs = sym (sum_by-IsPermutation (λ link. link.distance) links (one ∷ rest) moved) ∙ sum_by-cons (λ link. link.distance) one rest;
      kept = λ link in_rest. Contains-permutation (one ∷ rest) links link (IsPermutation-sym links (one ∷ rest) moved) (suc in_rest.0, omega (arith, in_rest.1), in_rest.2);
      only = λ link in_links. head_or_rest one rest link (Contains-permutation links (one ∷ rest) link moved in_links);
    }

-- a link leads either way
pub AreLinkEnds-sym : (links : List Link) (a b : ℕ) → AreLinkEnds links a b → AreLinkEnds links b a
AreLinkEnds-sym links a b linked = record { link = linked.link; listed = linked.listed; ends = ⊎_elim (λ there. inr there) (λ back. inl back) linked.ends }

-- a predicate that each link of a list carries from either end to the other
abbrev pub CarriedBy : List Link → (ℕ → Type 0) → Type 0
CarriedBy links M = (a b : ℕ) → AreLinkEnds links a b → M a → M b

-- a link of which neither end is reached is kept, and links as before
still_linked : (links rest : List Link) (R : ℕ → Type 0) (v next : ℕ) → (linked : AreLinkEnds links v next) → ¬ R v → ¬ R next → ((other : Link) → Contains links other → ¬ R other.one → ¬ R other.other → Contains rest other) → AreLinkEnds rest v next
still_linked links rest R v next linked none beyond keeps = ⊎_elim
    (λ there. record { link = linked.link; listed = keeps linked.link linked.listed (λ on. none (subst R there.0 on)) (λ on. beyond (subst R there.1 on)); ends = inl there })
    (λ back. record { link = linked.link; listed = keeps linked.link linked.listed (λ on. beyond (subst R back.0 on)) (λ on. none (subst R back.1 on)); ends = inr back })
    linked.ends

-- a vertex is led to a goal where its neighbour by a link is
pub carried_back : (links : List Link) (R : ℕ → Type 0) → CarriedBy links (LedTo links R)
carried_back links R a b linked led = record { goal = led.goal; way = a ∷ led.way; reached = led.reached; leads = (AreLinkEnds-sym links a b linked, led.leads) }

-- a vertex that a given link leads from is one of its ends
end_of_link : (links : List Link) (one : Link) (v next : ℕ) → (linked : AreLinkEnds links v next) → linked.link ≡ one → (v ≡ one.one) ⊎ (v ≡ one.other)
end_of_link links one v next linked same = ⊎_elim
    (λ there. inl (sym there.0 ∙ ap (λ (l : Link). l.one) same))
    (λ back. inr (sym back.1 ∙ ap (λ (l : Link). l.other) same))
    linked.ends

-- one end of a crossing link is reached
crossing_end : (link : Link) (inner outer : ℕ) (R : ℕ → Type 0) → ((link.one ≡ outer) × (link.other ≡ inner)) ⊎ ((link.one ≡ inner) × (link.other ≡ outer)) → R inner → ¬ R link.one → ¬ R link.other → ⊥
crossing_end link inner outer R ends reached first second = ⊎_elim (λ there. second (subst R (sym there.1) reached)) (λ back. first (subst R (sym back.0) reached)) ends

-- and the other isn't
crossing_sides : (link : Link) (inner outer : ℕ) (R : ℕ → Type 0) → ((link.one ≡ outer) × (link.other ≡ inner)) ⊎ ((link.one ≡ inner) × (link.other ≡ outer)) → R inner → ¬ R outer → (R link.one × (¬ R link.other)) ⊎ (R link.other × (¬ R link.one))
crossing_sides link inner outer R ends reached unreached = ⊎_elim
    (λ there. inr (subst R (sym there.1) reached, λ on. unreached (subst R there.0 on)))
    (λ back. inl (subst R (sym back.0) reached, λ on. unreached (subst R back.1 on)))
    ends

-- the end that isn't reached is the outer one
outer_end : (link : Link) (inner outer : ℕ) (R : ℕ → Type 0) → ((link.one ≡ outer) × (link.other ≡ inner)) ⊎ ((link.one ≡ inner) × (link.other ≡ outer)) → R inner → (u : ℕ) → (u ≡ link.one) ⊎ (u ≡ link.other) → ¬ R u → u ≡ outer
outer_end link inner outer R ends reached u end none = ⊎_elim
    (λ there. ⊎_elim (λ first. first ∙ there.0) (λ second. absurd (none (subst R (sym (second ∙ there.1)) reached))) end)
    (λ back. ⊎_elim (λ first. absurd (none (subst R (sym (first ∙ back.0)) reached))) (λ second. second ∙ back.1) end)
    ends

-- a way from a vertex that isn't reached comes to a link with one reached end; the links before it have none
record Crosses (links : List Link) (R : ℕ → Type 0) (v : ℕ) : Type 1 where
  inner : ℕ
  outer : ℕ
  link : Link
  listed : Contains links link
  ends : ((link.one ≡ outer) × (link.other ≡ inner)) ⊎ ((link.one ≡ inner) × (link.other ≡ outer))
  reached : R inner
  unreached : ¬ R outer
  before : (rest : List Link) → ((other : Link) → Contains links other → ¬ R other.one → ¬ R other.other → Contains rest other) → (M : ℕ → Type 0) → CarriedBy rest M → M v → M outer

crosses : (links : List Link) (R : ℕ → Type 0) → ((u : ℕ) → R u ⊎ (¬ R u)) → (v : ℕ) (way : List ℕ) (goal : ℕ) → R goal → ¬ R v → LeadTo links v way goal → Crosses links R v
crosses links R decide v [] goal reached none leads = absurd (none (subst R (sym leads) reached))
crosses links R decide v (next ∷ way) goal reached none (linked, leads) = ⊎_elim
    (λ in_reach. record {
      inner = next;
      outer = v;
      link = linked.link;
      listed = linked.listed;
      ends = linked.ends;
      reached = in_reach;
      unreached = none;
      before = λ rest keeps M carried at. at;
    })
    (λ beyond.
    let later = crosses links R decide next way goal reached beyond leads in
    record {
      inner = later.inner;
      outer = later.outer;
      link = later.link;
      listed = later.listed;
      ends = later.ends;
      reached = later.reached;
      unreached = later.unreached;
      before = λ rest keeps M carried at. later.before rest keeps M carried (carried v next (still_linked links rest R v next linked none beyond keeps) at);
    })
    (decide next)

-- where a link with two reached ends, one, or none leads in what is left
led_on : (links rest : List Link) (R : ℕ → Type 0) → ((u : ℕ) → R u ⊎ (¬ R u)) → (outer t : ℕ) → (one : Link) → ((link : Link) → Contains links link → (link ≡ one) ⊎ Contains rest link) →
    ((u : ℕ) → (u ≡ one.one) ⊎ (u ≡ one.other) → ¬ R u → u ≡ outer) → LedTo rest (OrAlso R t) outer → (v : ℕ) (way : List ℕ) (goal : ℕ) → R goal → LeadTo links v way goal → LedTo rest (OrAlso R t) v
led_on links rest R decide outer t one only at_outer led v [] goal reached leads = record { goal = v; way = []; reached = inl (subst R (sym leads) reached); leads = refl }
led_on links rest R decide outer t one only at_outer led v (next ∷ way) goal reached (linked, leads) = ⊎_elim
    (λ in_reach. record { goal = v; way = []; reached = inl in_reach; leads = refl })
    (λ beyond. ⊎_elim
    (λ same. subst (LedTo rest (OrAlso R t)) (sym (at_outer v (end_of_link links one v next linked same) beyond)) led)
    (λ kept.
    let later = led_on links rest R decide outer t one only at_outer led next way goal reached leads in
    let step : AreLinkEnds rest v next = record { link = linked.link; listed = kept; ends = linked.ends } in
    record { goal = later.goal; way = next ∷ later.way; reached = later.reached; leads = (step, later.leads) })
    (only linked.link linked.listed))
    (decide v)

-- when a terminal is reached, a link between a reached vertex and one that isn't goes, and no such link is nearer than the terminal
pub exchanged : (T : ℕ → Type 0) (links : List Link) (R : ℕ → Type 0) (total : ℕ) → ((u : ℕ) → R u ⊎ (¬ R u)) → IsExchanged T links R total → (t near : ℕ) → T t → ¬ R t →
    ((link : Link) → Contains links link → ((R link.one × (¬ R link.other)) ⊎ (R link.other × (¬ R link.one))) → near ≤ link.distance) → IsExchanged T links (OrAlso R t) (total + near)
exchanged T links R total decide ex t near terminal none far =
    let led = ex.led t terminal in
    let found = crosses ex.kept R decide t led.way led.goal led.reached none led.leads in
    let left = without_one ex.kept found.link found.listed in
    let at_end : LedTo left.rest (OrAlso R t) t = record { goal = t; way = []; reached = inr refl; leads = refl } in
    let at_outer = found.before left.rest
    (λ other listed first second. ⊎_elim
    (λ same. absurd (crossing_end found.link found.inner found.outer R found.ends found.reached (subst (λ (l : Link). ¬ R l.one) same first) (subst (λ (l : Link). ¬ R l.other) same second)))
    (λ kept. kept)
    (left.only other listed))
    (LedTo left.rest (OrAlso R t)) (carried_back left.rest (OrAlso R t)) at_end in
    record {
      kept = left.rest;
      light = omega (arith, ex.light, left.weighs, far found.link (ex.only found.link found.listed) (crossing_sides found.link found.inner found.outer R found.ends found.reached found.unreached));
      only = λ link in_rest. ex.only link (left.kept link in_rest);
      led = λ v at. let way = ex.led v at in
          led_on ex.kept left.rest R decide found.outer t found.link left.only (outer_end found.link found.inner found.outer R found.ends found.reached) at_outer v way.way way.goal way.reached way.leads;
    }

-- at the start one terminal is reached, to which the links lead all others
pub exchanged_at_start : (T : ℕ → Type 0) (links : List Link) (first : ℕ) → ((v : ℕ) → T v → (way : List ℕ) × LeadTo links v way first) → IsExchanged T links (λ u. u ≡ first) 0
exchanged_at_start T links first connects = record {
  kept = links;
  light = omega arith;
  only = λ link listed. listed;
  led = λ v at. let way = connects v at in record { goal = first; way = way.0; reached = refl; leads = way.1 };
}

-- what is reached may grow
pub exchanged_more : (T : ℕ → Type 0) (links : List Link) (R S : ℕ → Type 0) (total : ℕ) → ((v : ℕ) → R v → S v) → IsExchanged T links R total → IsExchanged T links S total
exchanged_more T links R S total more ex = record {
  kept = ex.kept;
  light = ex.light;
  only = ex.only;
  led = λ v at. let led = ex.led v at in record { goal = led.goal; way = led.way; reached = more led.goal led.reached; leads = led.leads };
}
