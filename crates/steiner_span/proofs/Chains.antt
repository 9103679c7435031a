-- Terminals in the order of a tour, and the links from each to the next: they span the terminals, and weigh no more than the
-- tour.
use Rattle.std.proofs.Common.{◌≡◌, ℕ, ◌+◌, ◌-◌, ◌*◌, ◌≤◌, ◌⊎◌, List, [], ◌∷◌, refl, sym, ap, subst, inl, inr, ⊎_elim, arith}
use Rattle.std.specs.List.{Contains}
use Rattle.std.proofs.lemmas.Bool.{cases_lt}
use Rattle.std.proofs.lemmas.List.Sums.{sum_by-cons}
use Rattle.grid_base.specs.declared.piece.Piece.{Piece}
use Rattle.grid_base.specs.declared.size.Size.{Size}
use Rattle.grid_base.specs.declared.vertex.Vertex.{Vertex}
use Rattle.grid_base.specs.Walks.{WalkBetween, Joins, InVertices}
use Rattle.grid_base.proofs.Lists.{head_or_rest, Contains-rest}
use Rattle.grid_base.proofs.Walks.{walk_vertices}
use Rattle.grid_graph.specs.Weighed.{IsAllowed, WeighsOnlyPieces}
use Rattle.label_search.specs.Sets.{IsSetOf, weight}
use Rattle.shortest_paths.specs.Spanning.{Link, AreLinkEnds, LeadTo, links_weight}
use Rattle.steiner_span.specs.Exchanges.{LedTo}
use Rattle.steiner_span.specs.SpanningLinks.{AreSpanningLinks}
use Rattle.steiner_span.proofs.Exchange.{AreLinkEnds-sym, CarriedBy, carried_back}
use Rattle.steiner_span.proofs.Members.{Contains-first, Contains-one_more}
use Rattle.steiner_span.proofs.Tours.{tour}

-- from a on, no vertex has a place before that of the one in front of it
abbrev Rises : (ℕ → ℕ) → ℕ → List ℕ → Type 0
Rises place a [] = Unit {0}
Rises place a (b ∷ rest) = (place a ≤ place b) × Rises place b rest

-- the links from each to the next, as long as their places are apart
abbrev chain_links : (ℕ → ℕ) → ℕ → List ℕ → List Link
chain_links place a [] = []
chain_links place a (b ∷ rest) = record { one = a; other = b; distance = place b - place a } ∷ chain_links place b rest

-- they weigh no more than the way to the last place
chain_weight : (place : ℕ → ℕ) (top a : ℕ) (vs : List ℕ) → Rises place a vs → place a ≤ top → ((v : ℕ) → Contains vs v → place v ≤ top) → place a + links_weight (chain_links place a vs) ≤ top
chain_weight place top a [] rises low inside = omega (arith, low)
chain_weight place top a (b ∷ rest) rises low inside =
    omega (
      arith,
      rises.0,
      chain_weight place top b rest rises.1 (inside b (Contains-first b rest b refl)) (λ v at. inside v (Contains-rest b rest v at)),
      sum_by-cons (λ (link : Link). link.distance) (record { one = a; other = b; distance = place b - place a }) (chain_links place b rest),
    )

-- a link leads forward between two vertices of which P holds, and is as long as their places are apart
record IsStep (place : ℕ → ℕ) (P : ℕ → Type 0) (link : Link) : Type 0 where
  from : P link.one
  to : P link.other
  forward : place link.one ≤ place link.other
  long : link.distance ≡ place link.other - place link.one

steps : (place : ℕ → ℕ) (P : ℕ → Type 0) (a : ℕ) (vs : List ℕ) → P a → ((v : ℕ) → Contains vs v → P v) → Rises place a vs → (link : Link) → Contains (chain_links place a vs) link → IsStep place P link
steps place P a [] holds all rises link at = absurd (omega (arith, at.1))
steps place P a (b ∷ rest) holds all rises link at =
    let there = all b (Contains-first b rest b refl) in
    let step : Link = record { one = a; other = b; distance = place b - place a } in
    ⊎_elim
    (λ here. subst (IsStep place P) (sym here) (record { from = holds; to = there; forward = rises.0; long = refl }))
    (λ later. steps place P b rest there (λ v is. all v (Contains-rest b rest v is)) rises.1 link later)
    (head_or_rest step (chain_links place b rest) link at)

-- what links carry from end to end they carry along the chain, either way
along : (links : List Link) (M : ℕ → Type 0) → CarriedBy links M → (place : ℕ → ℕ) (a : ℕ) (vs : List ℕ) → ((link : Link) → Contains (chain_links place a vs) link → Contains links link) → (v : ℕ) → Contains (a ∷ vs) v → (M a → M v) × (M v → M a)
along links M carried place a [] listed v at = ⊎_elim
    (λ here. (λ is. subst M (sym here) is, λ is. subst M here is))
    (λ none. absurd (omega (arith, none.1)))
    (head_or_rest a [] v at)
along links M carried place a (b ∷ rest) listed v at = ⊎_elim
    (λ here. (λ is. subst M (sym here) is, λ is. subst M here is))
    (λ further.
    let step : Link = record { one = a; other = b; distance = place b - place a } in
    let ends : AreLinkEnds links a b = record { link = step; listed = listed step (Contains-first step (chain_links place b rest) step refl); ends = inl (refl, refl) } in
    let on = along links M carried place b rest (λ link is. listed link (Contains-rest step (chain_links place b rest) link is)) v further in
    (λ is. on.0 (carried a b ends is), λ is. carried b a (AreLinkEnds-sym links a b ends) (on.1 is)))
    (head_or_rest a (b ∷ rest) v at)

-- the links of a chain lead from each of its vertices to each
chain_leads : (place : ℕ → ℕ) (root : ℕ) (vs : List ℕ) (a b : ℕ) → Contains (root ∷ vs) a → Contains (root ∷ vs) b → (way : List ℕ) × LeadTo (chain_links place root vs) a way b
chain_leads place root vs a b at_a at_b =
    let links = chain_links place root vs in
    let M : ℕ → Type 0 = LedTo links (λ u. u ≡ b) in
    let carried = carried_back links (λ u. u ≡ b) in
    let itself : (link : Link) → Contains links link → Contains links link = λ link is. is in
    let start : M b = record { goal = b; way = []; reached = refl; leads = refl } in
    let led = (along links M carried place root vs itself a at_a).0 ((along links M carried place root vs itself b at_b).1 start) in
    (led.way, subst (LeadTo links a led.way) led.reached led.leads)

-- a chain with one vertex more
record IsPlaced (place : ℕ → ℕ) (a : ℕ) (vs : List ℕ) (t : ℕ) : Type 0 where
  new : List ℕ
  rises : Rises place a new
  only : (v : ℕ) → Contains new v → (v ≡ t) ⊎ Contains vs v
  kept : (v : ℕ) → Contains vs v → Contains new v
  has : Contains new t

placed : (place : ℕ → ℕ) (a : ℕ) (vs : List ℕ) (t : ℕ) → Rises place a vs → place a ≤ place t → IsPlaced place a vs t
placed place a [] t rises behind = record {
  new = t ∷ [];
  rises = (behind, tt);
  only = λ v at. head_or_rest t [] v at;
  kept = λ v at. absurd (omega (arith, at.1));
  has = Contains-first t [] t refl;
}
placed place a (b ∷ rest) t rises behind = ⊎_elim
    (λ before. record {
      new = t ∷ b ∷ rest;
      rises = (behind, (omega (arith, before), rises.1));
      only = λ v at. head_or_rest t (b ∷ rest) v at;
      kept = λ v at. Contains-rest t (b ∷ rest) v at;
      has = Contains-first t (b ∷ rest) t refl;
    })
    (λ beyond.
    let later = placed place b rest t rises.1 beyond in
    record {
      new = b ∷ later.new;
      rises = (rises.0, later.rises);
      only = λ v at. ⊎_elim
          (λ here. inr (Contains-first b rest v here))
          (λ further. ⊎_elim (λ is. inl is) (λ old. inr (Contains-rest b rest v old)) (later.only v further))
          (head_or_rest b later.new v at);
      kept = Contains-one_more b rest later.new later.kept;
      has = Contains-rest b later.new t later.has;
    })
    (cases_lt (place t) (place b))

-- all terminals in the order of their places
record AreOrdered (place : ℕ → ℕ) (root : ℕ) (terminals : List Vertex) : Type 0 where
  order : List ℕ
  rises : Rises place root order
  only : (v : ℕ) → Contains order v → InVertices terminals v
  has : (v : ℕ) → InVertices terminals v → Contains order v

ordered : (place : ℕ → ℕ) (root : ℕ) (terminals : List Vertex) → place root ≡ 0 → AreOrdered place root terminals
ordered place root [] starts = record { order = []; rises = tt; only = λ v at. absurd (omega (arith, at.1)); has = λ v at. absurd (omega (arith, at.1)) }
ordered place root (t ∷ terminals) starts =
    let rest = ordered place root terminals starts in
    let new = placed place root rest.order t.0 rest.rises (omega (arith, starts)) in
    record {
      order = new.new;
      rises = new.rises;
      only = λ v at. ⊎_elim
          (λ here. Contains-first t terminals (record { 0 = v }) (ap (λ n. record { 0 = n }) here))
          (λ later. Contains-rest t terminals (record { 0 = v }) (rest.only v later))
          (new.only v at);
      has = λ v at. ⊎_elim
          (λ here. subst (Contains new.new) (sym (ap (λ (x : Vertex). x.0) here)) new.has)
          (λ later. new.kept v (rest.has v later))
          (head_or_rest t terminals (record { 0 = v }) at);
    }

-- links that span the terminals weigh at most the limit
pub record AreSpannedWithin (s : Size) (pieces : List (Piece × ℕ)) (terminals : List Vertex) (limit : ℕ) : Type 0 where
  pub links : List Link
  pub spans : AreSpanningLinks s pieces terminals links
  pub light : links_weight links ≤ limit

-- the links in the order of a tour round a set that joins them weigh at most twice the set
pub spanned_within_twice : (s : Size) (pieces : List (Piece × ℕ)) (terminals : List Vertex) (root : ℕ) → WeighsOnlyPieces s pieces → InVertices terminals root → (set : List (Piece × ℕ)) → IsSetOf pieces set → Joins s (IsAllowed set) (InVertices terminals) →
    AreSpannedWithin s pieces terminals (2 * weight set)
spanned_within_twice s pieces terminals root are terminal set is joins =
    let round = tour s pieces are set is.allowed root (walk_vertices s (IsAllowed set) root root (joins root root terminal terminal)).0 in
    let chain = ordered round.place root terminals round.starts in
    let all : (v : ℕ) → Contains chain.order v → WalkBetween s (IsAllowed set) root v = λ v at. joins root v terminal (chain.only v at) in
    let step = steps round.place (InVertices terminals) root chain.order terminal chain.only chain.rises in
    let low = chain_weight round.place (2 * weight set) root chain.order chain.rises (omega (arith, round.starts)) (λ v at. round.inside v (all v at)) in
    record {
      links = chain_links round.place root chain.order;
      spans = record {
        ends = λ link at. ((step link at).from, (step link at).to);
        joined = λ link at.
            let a = link.one in
            let b = link.other in
            let by = step link at in
            round.between a b link.distance (joins root a terminal by.from) (joins root b terminal by.to) (omega (arith, by.forward)) (omega (arith, by.forward, by.long));
        connects = λ a b at_a at_b. chain_leads round.place root chain.order a b (Contains-rest root chain.order a (chain.has a at_a)) (Contains-rest root chain.order b (chain.has b at_b));
      };
      light = omega (arith, low);
    }
