-- What a route costs at least: a net bound, since the pieces of the route, each once, are a subset of the net's ground.
use Rattle.std.proofs.Common.{◌≡◌, ◌≢◌, ℕ, zero, suc, ◌+◌, ◌*◌, ◌<◌, ◌≤◌, ◌⊎◌, ◌==◌, ◌||◌, Bool, true, false, cond, Option, List, [], ◌∷◌, length, All, slice_index, get_or, refl, sym, ◌∙◌, ap, subst, inl, inr, ⊎_elim, arith, eqb-true, eq-eqb}
use Rattle.std.specs.List.{Contains, range_with_len}
use Rattle.std.proofs.Math.Nat.{mul-suc, mul-zero}
use Rattle.std.proofs.lemmas.List.Elements.{All-head, All-tail, All-contains, Contains-get_or}
use Rattle.std.proofs.lemmas.List.Sums.{sum_by-cons}
use Rattle.std.proofs.lemmas.Option.{same_Some}
use Rattle.grid_base.specs.declared.piece.Piece.{Piece}
use Rattle.grid_base.specs.declared.piece.Piece.TheVariants.{Edge, Via}
use Rattle.grid_base.specs.Lists.{At, HasNoRepeats}
use Rattle.grid_base.specs.Walks.{InPieces, InVertices, Joins, JoinsList}
use Rattle.grid_base.proofs.Walks.{WalkBetween-superset}
use Rattle.grid_graph.specs.declared.grid.Grid.{Grid}
use Rattle.grid_graph.specs.declared.ground.Ground.{Ground}
use Rattle.grid_graph.specs.declared.ground.Ground.TheVariants.{Open, WithChoked}
use Rattle.grid_graph.specs.declared.net_spec.NetSpec.{NetSpec}
use Rattle.grid_graph.specs.Grids.{size_of, Allows, demand_on, edge_numbers, entries}
use Rattle.grid_graph.specs.Grounds.{IsGround}
use Rattle.edge_prices.specs.Weights.{cost, edge_cost, is_open}
use Rattle.edge_prices.proofs.GroundPieces.{allowed_number, pieces_with-WeighsOnlyPieces}
use Rattle.grid_graph.specs.Weighed.{IsAllowed}
use Rattle.label_search.specs.Sets.{IsSetOf, weight}
use Rattle.label_search.proofs.Sets.{piece_cases}
use Rattle.edge_prices.specs.declared.budget.Budget.{Budget}
use Rattle.edge_prices.specs.Budgets.{price_per_piece}
use Rattle.tree_set.specs.Loads.{is_edge_of, holds, net_load, tree_load}
use Rattle.lower_bound.specs.Costs.{costed, set_cost}
use Rattle.lower_bound.proofs.Costed.{costed_set}
use Rattle.lower_bound.proofs.LowBounds.{net_bound_low}
use Rattle.dual_bound.specs.DesignBounds.{IsAtMostEachRoute, IsBoundOfNet}
use Rattle.dual_bound.specs.Prices.{price_at, load_cost}
use Rattle.dual_bound.proofs.Closed.{at_edge, at_wirelength}
use Rattle.dual_bound.proofs.Entries.{two_entries, last_entry}
use Rattle.dual_bound.proofs.LoadCosts.{priced-add, priced-le}

-- ---- members of lists

head_or_rest : (q : Piece) (ps : List Piece) (p : Piece) → Contains (q ∷ ps) p → (q ≡ p) ⊎ Contains ps p
head_or_rest q ps p (zero, within, is) = inl is
head_or_rest q ps p (suc k, within, is) = inr (k, omega (arith, within), is)

in_rest : (q : Piece) (ps : List Piece) (p : Piece) → Contains ps p → Contains (q ∷ ps) p
in_rest q ps p at = (suc at.0, omega (arith, at.1), at.2)

in_or_not : (ps : List Piece) (p : Piece) → Contains ps p ⊎ (¬ Contains ps p)
in_or_not [] p = inr (λ at. absurd (omega (arith, at.1)))
in_or_not (q ∷ ps) p = ⊎_elim
    (λ same. inl (0, omega arith, same))
    (λ other. ⊎_elim
    (λ at. inl (in_rest q ps p at))
    (λ none. inr (λ at. ⊎_elim other none (head_or_rest q ps p at)))
    (in_or_not ps p))
    (piece_cases q p)

at_member : (ps : List Piece) (i : ℕ) (p : Piece) → At ps i p → Contains ps p
at_member [] i p at = cc
at_member (q ∷ ps) zero p at = (0, omega arith, same_Some _ _ at)
at_member (q ∷ ps) (suc i) p at = in_rest q ps p (at_member ps i p at)

once_more : (q : Piece) (ps : List Piece) → HasNoRepeats ps → ¬ Contains ps q → HasNoRepeats (q ∷ ps)
once_more q ps once new zero zero p first second = refl
once_more q ps once new zero (suc j) p first second = absurd (new (subst (Contains ps) (sym (same_Some _ _ first)) (at_member ps j p second)))
once_more q ps once new (suc i) zero p first second = absurd (new (subst (Contains ps) (sym (same_Some _ _ second)) (at_member ps i p first)))
once_more q ps once new (suc i) (suc j) p first second = ap suc (once i j p first second)

-- ---- loads of a piece more

edge_of : (e : ℕ) (p : Piece) → is_edge_of e p ≡ true → p ≡ Edge (record { 0 = e })
edge_of e (Edge x) is = ap (λ n. Edge (record { 0 = n })) (eqb-true x.0 e is)
edge_of e (Via v) is = cc

first_or_rest : (q : Piece) (ps : List Piece) (e : ℕ) (b : Bool) → is_edge_of e q ≡ b → (b || holds ps e) ≡ true → (holds ps e ≡ true → Contains ps (Edge (record { 0 = e })))
    → Contains (q ∷ ps) (Edge (record { 0 = e }))
first_or_rest q ps e true is held behind = (0, omega arith, edge_of e q is)
first_or_rest q ps e false is held behind = in_rest q ps _ (behind held)

-- the set that holds an edge has it as a piece
held_is_member : (ps : List Piece) (e : ℕ) → holds ps e ≡ true → Contains ps (Edge (record { 0 = e }))
held_is_member [] e held = cc
held_is_member (q ∷ ps) e held = first_or_rest q ps e (is_edge_of e q) refl held (held_is_member ps e)

or_true : (b : Bool) → (b || true) ≡ true
or_true true = refl
or_true false = refl

one_of_two : (one other : Bool) (demand : ℕ) → (one ≡ true → other ≡ true → ⊥) → cond (one || other) demand 0 ≡ cond (one || false) demand 0 + cond other demand 0
one_of_two true true demand apart = absurd (apart refl refl)
one_of_two true false demand apart = omega arith
one_of_two false other demand apart = omega arith

by_cases : (b : Bool) (one other two more all whole : ℕ) → all ≡ one + other → whole ≡ two + more → cond b all whole ≡ cond b one two + cond b other more
by_cases true one other two more all whole first second = first
by_cases false one other two more all whole first second = second

-- the load of a set with one piece more
one_piece_more : (g : Grid) (width : ℕ) (p : Piece) (ps : List Piece) (r : ℕ) → ¬ Contains ps p
    → tree_load g width (p ∷ ps) r ≡ tree_load g width (p ∷ []) r + tree_load g width ps r
one_piece_more g width p ps r new = by_cases (r == edge_numbers g) 1 (length ps) (net_load g width (p ∷ []) r) (net_load g width ps r) (length (p ∷ ps)) (net_load g width (p ∷ ps) r) (omega arith)
    (one_of_two (is_edge_of r p) (holds ps r) (demand_on g width r) (λ is held. new (subst (Contains ps) (sym (edge_of r p is)) (held_is_member ps r held))))

-- ---- the cost of a piece

cost_below : (b : Bool) (whole : ℕ) → cond b whole 0 ≤ whole
cost_below true whole = omega arith
cost_below false whole = omega arith

-- a piece costs no more than its loads do
piece_cost : (g : Grid) (prices : List ℕ) (budget : Option Budget) (width : ℕ) (over : Ground) (p : Piece) → Allows g over p
    → cost g width prices p + price_per_piece budget ≤ load_cost g prices budget width (p ∷ [])
piece_cost g prices budget width over (Via v) allowed =
    let last = edge_numbers g in
    let f : ℕ → ℕ = λ r. price_at g prices budget r * tree_load g width (Via v ∷ []) r in
    let here : f last ≡ price_per_piece budget * 1 =
    ap (λ x. x * tree_load g width (Via v ∷ []) last) (at_wirelength g (price_per_piece budget) (slice_index prices last) last refl)
    ∙ ap (λ x. price_per_piece budget * x) (at_wirelength g 1 (net_load g width (Via v ∷ []) last) last refl) in
    omega (arith, here, last_entry f last)
piece_cost g prices budget width over (Edge x) allowed =
    let last = edge_numbers g in
    let p : Piece = Edge x in
    let f : ℕ → ℕ = λ r. price_at g prices budget r * tree_load g width (p ∷ []) r in
    let inside : x.0 < last = allowed_number g over x allowed in
    let differs : x.0 ≢ last = λ same. absurd (omega (arith, inside, same)) in
    let wire : f last ≡ price_per_piece budget * 1 =
    ap (λ y. y * tree_load g width (p ∷ []) last) (at_wirelength g (price_per_piece budget) (slice_index prices last) last refl)
    ∙ ap (λ y. price_per_piece budget * y) (at_wirelength g 1 (net_load g width (p ∷ []) last) last refl) in
    let held : net_load g width (p ∷ []) x.0 ≡ demand_on g width x.0 = ap (λ (b : Bool). cond (b || false) (demand_on g width x.0) 0) (eq-eqb x.0 x.0 refl) in
    let edge : f x.0 ≡ edge_cost g width prices x.0 =
    ap (λ y. y * tree_load g width (p ∷ []) x.0) (at_edge g (price_per_piece budget) (slice_index prices x.0) x.0 differs)
    ∙ ap (λ y. slice_index prices x.0 * y) (at_edge g 1 (net_load g width (p ∷ []) x.0) x.0 differs ∙ held) in
    omega (arith, wire, edge, cost_below (is_open g x.0) (edge_cost g width prices x.0), two_entries f (last + 1) 0 x.0 last (omega arith) inside (omega arith))

-- ---- each piece once

-- the pieces of a set, each once
record IsThinned (g : Grid) (prices : List ℕ) (budget : Option Budget) (width : ℕ) (set : List Piece) : Type 0 where
  thin : List Piece
  once : HasNoRepeats thin
  within : (p : Piece) → Contains thin p → Contains set p
  all : (p : Piece) → Contains set p → Contains thin p
  short : length thin ≤ length set
  cheap : set_cost g width prices (price_per_piece budget) thin ≤ load_cost g prices budget width thin

thinned : (g : Grid) (prices : List ℕ) (budget : Option Budget) (width : ℕ) (over : Ground) (set : List Piece) → All (Allows g over) set → IsThinned g prices budget width set
thinned g prices budget width over [] allowed = record {
  thin = [];
  once = λ i j p first second. cc;
  within = λ p at. at;
  all = λ p at. at;
  short = omega arith;
  cheap = omega (arith, mul-zero (price_per_piece budget));
}
thinned g prices budget width over (p ∷ set) allowed =
    let rest = thinned g prices budget width over set (All-tail (Allows g over) p set allowed) in
    ⊎_elim
    (λ old. record {
      thin = rest.thin;
      once = rest.once;
      within = λ q at. in_rest p set q (rest.within q at);
      all = λ q at. ⊎_elim (λ same. subst (Contains rest.thin) same old) (λ behind. rest.all q behind) (head_or_rest p set q at);
      short = omega (arith, rest.short);
      cheap = rest.cheap;
    })
    (λ new. record {
      thin = p ∷ rest.thin;
      once = once_more p rest.thin rest.once new;
      within = λ q at. ⊎_elim (λ same. (0, omega arith, same)) (λ behind. in_rest p set q (rest.within q behind)) (head_or_rest p rest.thin q at);
      all = λ q at. ⊎_elim (λ same. (0, omega arith, same)) (λ behind. in_rest p rest.thin q (rest.all q behind)) (head_or_rest p set q at);
      short = omega (arith, rest.short);
      cheap = omega (
        arith,
        rest.cheap,
        piece_cost g prices budget width over p (All-head (Allows g over) p set allowed),
        priced-add (price_at g prices budget) (tree_load g width (p ∷ [])) (tree_load g width rest.thin) (tree_load g width (p ∷ rest.thin)) (range_with_len 0 (entries g)) (λ r. one_piece_more g width p rest.thin r new),
        sum_by-cons (cost g width prices) p rest.thin,
        mul-suc (price_per_piece budget) (length rest.thin),
      );
    })
    (in_or_not rest.thin p)

-- ---- net bounds

load_below : (b c : Bool) (one two demand : ℕ) → one ≤ two → (b ≡ true → c ≡ true) → (t : Bool) → cond t one (cond b demand 0) ≤ cond t two (cond c demand 0)
load_below b c one two demand short more true = short
load_below false c one two demand short more false = omega arith
load_below true c one two demand short more false = rw (more refl) (omega arith)

member_is_held : (ps : List Piece) (e : ℕ) → Contains ps (Edge (record { 0 = e })) → holds ps e ≡ true
member_is_held [] e at = absurd (omega (arith, at.1))
member_is_held (q ∷ ps) e at = ⊎_elim
    (λ same. ap (λ (b : Bool). b || holds ps e) (ap (is_edge_of e) same ∙ eq-eqb e e refl))
    (λ rest. ap (λ (b : Bool). is_edge_of e q || b) (member_is_held ps e rest) ∙ or_true (is_edge_of e q))
    (head_or_rest q ps (Edge (record { 0 = e })) at)

-- a net has one ground
one_ground : (g : Grid) (n : NetSpec) (one other : Ground) → IsGround g n.terminals one → IsGround g n.terminals other → one ≡ other
one_ground g n Open Open a b = refl
one_ground g n Open WithChoked a b = absurd (b.0 a)
one_ground g n WithChoked Open a b = absurd (a.0 b)
one_ground g n WithChoked WithChoked a b = refl

-- a number that no set of the net's ground costs less than that joins the terminals is at most what each route costs
pub at_most_each_route : (g : Grid) (prices : List ℕ) (budget : Option Budget) (n : NetSpec) (over : Ground) (low : ℕ) → IsGround g n.terminals over
    → ((set : List (Piece × ℕ)) → IsSetOf (costed g n.width over prices (price_per_piece budget)) set → Joins (size_of g) (IsAllowed set) (InVertices n.terminals) → low ≤ weight set)
    → IsAtMostEachRoute g prices budget n low
at_most_each_route g prices budget n over low is_ground bounds set route =
    let same : route.over ≡ over = one_ground g n route.over over route.is_ground is_ground in
    let inside : All (Allows g over) set = subst (λ (o : Ground). All (Allows g o) set) same route.inside in
    let thin = thinned g prices budget n.width over set inside in
    let q = price_per_piece budget in
    let allowed : All (Allows g over) thin.thin = λ k d low. All-contains (Allows g over) set (get_or thin.thin k d) inside (thin.within _ (Contains-get_or thin.thin k d low)) in
    let joins : JoinsList (size_of g) thin.thin n.terminals = λ a b at_a at_b. WalkBetween-superset (size_of g) (InPieces set) (InPieces thin.thin) thin.all a b (route.joined a b at_a at_b) in
    let costs = costed_set g n.width over prices q thin.thin n.terminals thin.once allowed joins in
    let more = priced-le (price_at g prices budget) (tree_load g n.width thin.thin) (tree_load g n.width set) (range_with_len 0 (entries g))
    (λ r. load_below (holds thin.thin r) (holds set r) (length thin.thin) (length set) (demand_on g n.width r) thin.short
    (λ held. member_is_held set r (thin.within _ (held_is_member thin.thin r held))) (r == edge_numbers g)) in
    omega (arith, bounds costs.costs costs.is_set costs.joins, costs.weighs, thin.cheap, more)

pub net_bound_at_most : (g : Grid) (prices : List ℕ) (budget : Option Budget) (n : NetSpec) (bound : ℕ) → IsBoundOfNet g prices budget n bound → IsAtMostEachRoute g prices budget n bound
net_bound_at_most g prices budget n bound is =
    let only = pieces_with-WeighsOnlyPieces g is.over (λ p. cost g n.width prices p + price_per_piece budget) in
    at_most_each_route g prices budget n is.over bound is.is_ground
    (λ set is_set joins. net_bound_low (size_of g) (costed g n.width is.over prices (price_per_piece budget)) n.terminals bound only is.is_bound set is_set joins)
