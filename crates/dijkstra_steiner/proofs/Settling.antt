-- A search over masks from one vertex that is taken out to the next, and what it knows when the root is, or when nothing waits.
use Rattle.std.proofs.Common.{◌≡◌, ◌≢◌, ℕ, ◌+◌, ◌-◌, ◌<◌, ◌≤◌, ◌*◌, ◌^◌, List, length, suc, sym, ◌∙◌, ap, subst, ⊎_elim, arith}
use Rattle.std.proofs.Math.Nat.{pow-succ'}
use Rattle.std.proofs.lemmas.Bool.{cases_eq, cases_lt}
use Rattle.std.proofs.lemmas.Nat.{pow_pos}
use Rattle.grid_base.specs.declared.piece.Piece.{Piece}
use Rattle.grid_base.specs.declared.size.Size.{Size}
use Rattle.grid_base.specs.declared.spot.Spot.{Spot}
use Rattle.grid_base.specs.declared.vertex.Vertex.{Vertex}
use Rattle.grid_base.specs.Lists.{At}
use Rattle.grid_base.specs.Numbers.{IsVertex, Connects}
use Rattle.grid_base.specs.Spots.{spot_at}
use Rattle.grid_base.specs.Walks.{Joins, InVertices}
use Rattle.grid_graph.specs.Flat.{tile_of}
use Rattle.grid_graph.specs.Weighed.{Weighs, IsAllowed, NoPieceTwice, AreWithinLimit}
use Rattle.label_search.specs.declared.found.Found.{Found}
use Rattle.label_search.specs.declared.row.Row.{Row}
use Rattle.label_search.specs.Founds.{index_in}
use Rattle.label_search.specs.Rows.{size_in, number_in, IsWaiting, Waits, IsLeastWaiting}
use Rattle.label_search.specs.Runs.{IsSearch}
use Rattle.label_search.specs.Sets.{IsLeastWeight}
use Rattle.label_search.specs.Stamped.{far, max_key}
use Rattle.steiner_tables.specs.Masks.{rooted_masks, few_terminals, single, all_of, all_but_root, AreParts}
use Rattle.steiner_tables.specs.Tables.{IsFamily, rest_of}
use Rattle.steiner_tables.proofs.Masks.{parts_sum, parts_turned}
use Rattle.steiner_tables.proofs.Roots.{root_mask}
use Rattle.dijkstra_steiner.specs.Stacks.{IsStackOf, on_stack, mask_of, rest_on}
use Rattle.dijkstra_steiner.specs.MaskSearches.{mask_number, IsMaskSearch, AreStarted, AreMasksSettled, Proceeds}
use Rattle.dijkstra_steiner.specs.Closed.{IsClosed}
use Rattle.dijkstra_steiner.proofs.Closed.{closed_least, closed_apart}
use Rattle.dijkstra_steiner.proofs.MaskOffers.{stays}
use Rattle.dijkstra_steiner.proofs.Starting.{last_room}
use Rattle.dijkstra_steiner.proofs.OnStack.{mask_on, under_on, on_of, rest_at}

-- a vertex was taken out
pub record IsTaken (old new : Row) (w : ℕ) : Type 0 where
  pub found : new.found ≡ old.found
  pub numbers : (v : ℕ) → number_in new v ≡ number_in old v
  pub kept : (u k : ℕ) → u ≢ w → IsWaiting old u k → IsWaiting new u k
  pub only : (u k : ℕ) → IsWaiting new u k → (u ≢ w) × IsWaiting old u k

-- a vertex other than the root is taken out
pub taken_masks : (flat : Size) (pieces : List (Piece × ℕ)) (terminals : List Vertex) (low : ℕ → ℕ → ℕ) (last root : ℕ)
    (old new : Row) (w : ℕ) → IsMaskSearch flat pieces terminals low last root old → IsTaken old new w → w ≢ root
    → IsMaskSearch flat pieces terminals low last root new
taken_masks flat pieces terminals low last root old new w before is other =
    let same : size_in old ≡ size_in new = ap (λ (f : Found). f.size) (sym is.found) in
    record {
      search = subst (λ (s : Size). IsSearch (rest_on s terminals low) max_key new) same (record {
        keys = λ v key held. omega (arith, before.search.keys v key (is.only v key held).1, is.numbers v);
        numbered = λ v key held. omega (arith, before.search.numbered v key (is.only v key held).1, is.numbers v);
        within = λ v has. omega (arith, before.search.within v (omega (arith, has, is.numbers v)), is.numbers v);
      });
      used = λ v has. subst (λ (s : Size). IsVertex s v × (mask_of s v ≤ last)) same
          (before.used v (omega (arith, has, is.numbers v)));
      trees = λ mask v some below vertex has.
          let is_same = is.numbers (on_stack flat mask v) in
          rw is_same (before.trees mask v some below vertex (omega (arith, has, is_same)));
      waits = λ has.
          let waits = before.waits (omega (arith, has, is.numbers root)) in
          (waits.0, is.kept root waits.0 (λ here. other (sym here)) waits.1);
    }

-- a vertex is taken out, and then numbers fall twice: its sums are offered, and its steps
pub record IsStep (stack flat : Size) (pieces : List (Piece × ℕ)) (last mask v w : ℕ) (old taken merged new : Row) : Type 0 where
  pub is_stack : IsStackOf stack flat
  pub room : last ≤ rooted_masks
  pub masked : mask ≡ mask_of stack w
  pub under : v ≡ tile_of stack w
  pub takes : IsTaken old taken w
  pub first : Proceeds taken merged
  pub second : Proceeds merged new
  pub sums : (other both : ℕ) → AreParts mask other both → both ≤ last → ¬ Waits merged (on_stack flat other v)
      → mask_number flat merged both v ≤ mask_number flat taken mask v + mask_number flat merged other v
  pub steps : (p : Piece) (k u : ℕ) → Weighs pieces p k → Connects flat p v u
      → mask_number flat new mask u ≤ mask_number flat merged mask v + k

-- what doesn't wait behind a step has kept its number
pub record IsStill (old taken merged new : Row) (u : ℕ) : Type 0 where
  pub later : number_in new u ≡ number_in merged u
  pub before : number_in merged u ≡ number_in taken u
  pub begin : number_in taken u ≡ number_in old u
  pub idle : ¬ Waits merged u

still : (stack flat : Size) (pieces : List (Piece × ℕ)) (last mask v w : ℕ) (old taken merged new : Row)
    → IsStep stack flat pieces last mask v w old taken merged new → (u : ℕ) → ¬ Waits new u → IsStill old taken merged new u
still stack flat pieces last mask v w old taken merged new is u done =
    let idle : ¬ Waits merged u = λ waits. done (is.second.kept u waits) in
    record {
      later = stays merged new u is.second done;
      before = stays taken merged u is.first idle;
      begin = is.takes.numbers u;
      idle = idle;
    }

-- and what is another vertex didn't wait before
done_before : (stack flat : Size) (pieces : List (Piece × ℕ)) (last mask v w : ℕ) (old taken merged new : Row)
    → IsStep stack flat pieces last mask v w old taken merged new → (u : ℕ) → ¬ Waits new u → u ≢ w → ¬ Waits old u
done_before stack flat pieces last mask v w old taken merged new is u done other waits =
    done (is.second.kept u (is.first.kept u (waits.0, is.takes.kept u waits.0 other waits.1)))

fallen : (stack flat : Size) (pieces : List (Piece × ℕ)) (last mask v w : ℕ) (old taken merged new : Row)
    → IsStep stack flat pieces last mask v w old taken merged new → (u : ℕ) → number_in new u ≤ number_in old u
fallen stack flat pieces last mask v w old taken merged new is u =
    omega (arith, is.second.falls u, is.first.falls u, is.takes.numbers u)

-- the vertex that is taken out has one mask, and one vertex lies under it
one_place : (stack flat : Size) (pieces : List (Piece × ℕ)) (last mask v w : ℕ) (old taken merged new : Row)
    → IsStep stack flat pieces last mask v w old taken merged new → (one u : ℕ) → 0 < one → one ≤ last → IsVertex flat u
    → on_stack flat one u ≡ w → (one ≡ mask) × (u ≡ v)
one_place stack flat pieces last mask v w old taken merged new is one u some below vertex here =
    let room : one ≤ rooted_masks = omega (arith, below, is.room) in (
      sym (mask_on stack flat one u is.is_stack some room vertex) ∙ ap (mask_of stack) here ∙ sym is.masked,
      sym (under_on stack flat one u is.is_stack some room vertex) ∙ ap (tile_of stack) here ∙ sym is.under,
    )

-- the sums of the vertex that is taken out
sums_of : (stack flat : Size) (pieces : List (Piece × ℕ)) (last mask v w : ℕ) (old taken merged new : Row)
    → IsStep stack flat pieces last mask v w old taken merged new → (one other both u : ℕ) → AreParts one other both → both ≤ last
    → (one ≡ mask) × (u ≡ v) → ¬ Waits new (on_stack flat one u) → ¬ Waits new (on_stack flat other u)
    → mask_number flat new both u ≤ mask_number flat new one u + mask_number flat new other u
sums_of stack flat pieces last mask v w old taken merged new is one other both u parts below here done also =
    let a = on_stack flat one u in
    let b = on_stack flat other u in
    let first = still stack flat pieces last mask v w old taken merged new is a done in
    let second = still stack flat pieces last mask v w old taken merged new is b also in
    let sum = is.sums other both (subst (λ m. AreParts m other both) here.0 parts) below
    (subst (λ x. ¬ Waits merged (on_stack flat other x)) here.1 second.idle) in
    omega (
      arith,
      sum,
      is.second.falls (on_stack flat both u),
      ap (λ x. mask_number flat merged both x) here.1,
      ap (λ x. mask_number flat merged other x) here.1,
      ap (λ x. mask_number flat taken one x) here.1,
      ap (λ m. mask_number flat taken m v) here.0,
      first.later,
      first.before,
      second.later,
    )

-- after a vertex that was taken out was merged and relaxed, each vertex that doesn't wait is done
pub settled_step : (stack flat : Size) (pieces : List (Piece × ℕ)) (last mask v w : ℕ) (old taken merged new : Row)
    → IsStep stack flat pieces last mask v w old taken merged new → AreMasksSettled flat pieces last old
    → AreMasksSettled flat pieces last new
settled_step stack flat pieces last mask v w old taken merged new is before = record {
  relaxed = λ one p k a u some below vertex done weighs connects.
      let x = on_stack flat one a in
      let same = still stack flat pieces last mask v w old taken merged new is x done in
      ⊎_elim
      (λ here.
      let place = one_place stack flat pieces last mask v w old taken merged new is one a some below vertex here in
      omega (
        arith,
        is.steps p k u weighs (subst (λ y. Connects flat p y u) place.1 connects),
        ap (λ m. mask_number flat new m u) place.0,
        ap (λ y. mask_number flat merged one y) place.1,
        ap (λ m. mask_number flat merged m v) place.0,
        same.later,
      ))
      (λ other. omega (
        arith,
        before.relaxed one p k a u some below vertex
            (done_before stack flat pieces last mask v w old taken merged new is x done other) weighs connects,
        fallen stack flat pieces last mask v w old taken merged new is (on_stack flat one u),
        same.later,
        same.before,
        same.begin,
      ))
      (cases_eq x w);
  merged = λ one other both a parts below vertex done also.
      let x = on_stack flat one a in
      let y = on_stack flat other a in
      let sum = parts_sum one other both parts in
      let turned = parts_turned one other both parts in
      ⊎_elim
      (λ here. sums_of stack flat pieces last mask v w old taken merged new is one other both a parts below
      (one_place stack flat pieces last mask v w old taken merged new is one a parts.some (omega (arith, sum, below)) vertex here)
      done also)
      (λ apart. ⊎_elim
      (λ here. omega (
        arith,
        sums_of stack flat pieces last mask v w old taken merged new is other one both a turned below
            (one_place stack flat pieces last mask v w old taken merged new is other a parts.others (omega (arith, sum, below)) vertex here)
            also done,
      ))
      (λ different.
      let first = still stack flat pieces last mask v w old taken merged new is x done in
      let second = still stack flat pieces last mask v w old taken merged new is y also in
      omega (
        arith,
        before.merged one other both a parts below vertex
            (done_before stack flat pieces last mask v w old taken merged new is x done apart)
            (done_before stack flat pieces last mask v w old taken merged new is y also different),
        fallen stack flat pieces last mask v w old taken merged new is (on_stack flat both a),
        first.later,
        first.before,
        first.begin,
        second.later,
        second.before,
        second.begin,
      ))
      (cases_eq y w))
      (cases_eq x w);
}

-- numbers that fell from 0 are 0
started_step : (flat : Size) (terminals : List Vertex) (last : ℕ) (old new : Row) → ((u : ℕ) → number_in new u ≤ number_in old u)
    → AreStarted flat terminals last old → AreStarted flat terminals last new
started_step flat terminals last old new falls before place v at below =
    omega (arith, before place v at below, falls (on_stack flat (single place) v.0))

-- what a search over masks knows from one step to the next
pub record IsSettling (flat : Size) (pieces : List (Piece × ℕ)) (terminals : List Vertex) (low : ℕ → ℕ → ℕ) (last root : ℕ)
    (r : Row) : Type 0 where
  pub masks : IsMaskSearch flat pieces terminals low last root r
  pub started : AreStarted flat terminals last r
  pub settled : AreMasksSettled flat pieces last r

-- it is known by equal words
pub settling_as : (t s : Size) (pieces : List (Piece × ℕ)) (listed terminals : List Vertex) (low : ℕ → ℕ → ℕ)
    (last all root : ℕ) (r : Row) → t ≡ s → listed ≡ terminals → last ≡ all → IsSettling t pieces listed low last root r
    → IsSettling s pieces terminals low all root r
settling_as t s pieces listed terminals low last all root r size list same is =
    subst (λ (x : Size). IsSettling x pieces terminals low all root r) size
    (subst (λ (ts : List Vertex). IsSettling t pieces ts low all root r) list
    (subst (λ m. IsSettling t pieces listed low m root r) same is))

-- and after a step
pub settling_step : (stack flat : Size) (pieces : List (Piece × ℕ)) (terminals : List Vertex) (low : ℕ → ℕ → ℕ)
    (last root mask v w : ℕ) (old taken merged new : Row) → IsStep stack flat pieces last mask v w old taken merged new
    → IsMaskSearch flat pieces terminals low last root new → IsSettling flat pieces terminals low last root old
    → IsSettling flat pieces terminals low last root new
settling_step stack flat pieces terminals low last root mask v w old taken merged new is sets before = record {
  masks = sets;
  started = started_step flat terminals last old new (fallen stack flat pieces last mask v w old taken merged new is) before.started;
  settled = settled_step stack flat pieces last mask v w old taken merged new is before.settled;
}

-- a number is at most `far`
number_limit : (r : Row) (w : ℕ) → number_in r w ≤ far
number_limit r w = r.parts.limits (index_in r.found w)

-- at the begin what has a number waits, so that nothing is owed for the others
pub settled_begin : (flat : Size) (pieces : List (Piece × ℕ)) (last : ℕ) (r : Row)
    → ((w : ℕ) → number_in r w < far → Waits r w) → AreMasksSettled flat pieces last r
settled_begin flat pieces last r waits =
    let none : (w : ℕ) → ¬ Waits r w → far ≤ number_in r w =
    λ w done. ⊎_elim (λ has. absurd (done (waits w has))) (λ none. omega (arith, none)) (cases_lt (number_in r w) far) in
    record {
      relaxed = λ mask p k v u some below vertex done weighs connects.
          omega (arith, none (on_stack flat mask v) done, number_limit r (on_stack flat mask u));
      merged = λ one other mask v parts below vertex done also.
          omega (arith, none (on_stack flat one v) done, number_limit r (on_stack flat mask v));
    }

-- what is taken out is of a mask up to the last one
pub taken_mask : (stack flat : Size) (pieces : List (Piece × ℕ)) (terminals : List Vertex) (low : ℕ → ℕ → ℕ)
    (last root w mask : ℕ) (r : Row) → size_in r ≡ stack → IsMaskSearch flat pieces terminals low last root r
    → IsLeastWaiting r w → mask ≡ mask_of stack w → mask ≤ last
taken_mask stack flat pieces terminals low last root w mask r size sets least masked =
    omega (
      arith,
      masked,
      ap (λ (s : Size). mask_of s w) size,
      (sets.used w (sets.search.numbered w least.key least.waits)).1,
    )

-- and stands there
pub taken_at : (stack flat : Size) (w mask v : ℕ) → IsStackOf stack flat → IsVertex stack w → mask ≡ mask_of stack w
    → v ≡ tile_of stack w → on_stack flat mask v ≡ w
taken_at stack flat w mask v is vertex masked under =
    ap (λ m. on_stack flat m v) masked ∙ ap (on_stack flat (mask_of stack w)) under ∙ on_of stack flat w is vertex

-- a search for all terminals but the root, whose goal is the root
pub record IsForRoot (s : Size) (pieces : List (Piece × ℕ)) (terminals : List Vertex) (low : ℕ → ℕ → ℕ) (root : Vertex)
    (goal : ℕ) (r : Row) : Type 0 where
  pub family : IsFamily s pieces terminals low
  pub two : 2 ≤ length terminals
  pub few : length terminals ≤ few_terminals
  pub stack : IsStackOf (size_in r) s
  pub last : At terminals (length terminals - 1) root
  pub vertex : IsVertex s root.0
  pub is : goal ≡ on_stack s (all_but_root terminals) root.0
  pub settling : IsSettling s pieces terminals low (all_but_root terminals) goal r

-- the goal is the root, by equal words
pub root_on : (x t s : Size) (last all u goal : ℕ) (at : Spot) → at ≡ spot_at x u → goal ≡ on_stack t last at.vertex.0 → t ≡ s
    → last ≡ all → goal ≡ on_stack s all u
root_on x t s last all u goal at here is size same =
    is ∙ ap (λ (y : Size). on_stack y last at.vertex.0) size ∙ ap (λ m. on_stack s m at.vertex.0) same
    ∙ ap (λ (y : Spot). on_stack s all y.vertex.0) here

-- what is left to go from a mask up to the last one
rest_within : (s : Size) (pieces : List (Piece × ℕ)) (terminals : List Vertex) (low : ℕ → ℕ → ℕ) (root : Vertex) (goal : ℕ)
    (r : Row) → IsForRoot s pieces terminals low root goal r → (mask v : ℕ) → 0 < mask → mask ≤ all_but_root terminals
    → IsVertex s v → rest_on (size_in r) terminals low (on_stack s mask v) ≡ rest_of terminals low mask v
rest_within s pieces terminals low root goal r is mask v some below vertex =
    rest_at (size_in r) s terminals low mask v is.stack some (omega (arith, below, last_room terminals is.few)) vertex
    (omega (arith, below, (root_mask terminals is.two).1))

-- what is below all keys together with what is left to go doesn't wait
done_below : (s : Size) (pieces : List (Piece × ℕ)) (terminals : List Vertex) (low : ℕ → ℕ → ℕ) (root : Vertex) (goal : ℕ)
    (r : Row) (least : ℕ) → IsForRoot s pieces terminals low root goal r → ((w key : ℕ) → IsWaiting r w key → least ≤ key)
    → (mask v : ℕ) → 0 < mask → mask ≤ all_but_root terminals → IsVertex s v
    → mask_number s r mask v + rest_of terminals low mask v < least → ¬ Waits r (on_stack s mask v)
done_below s pieces terminals low root goal r least is above mask v some below vertex less waits =
    omega (
      arith,
      less,
      above (on_stack s mask v) waits.0 waits.1,
      is.settling.masks.search.keys (on_stack s mask v) waits.0 waits.1,
      rest_within s pieces terminals low root goal r is mask v some below vertex,
    )

closed_below : (s : Size) (pieces : List (Piece × ℕ)) (terminals : List Vertex) (low : ℕ → ℕ → ℕ) (root : Vertex) (goal : ℕ)
    (r : Row) (least : ℕ) → IsForRoot s pieces terminals low root goal r → ((w key : ℕ) → IsWaiting r w key → least ≤ key)
    → least ≤ far → IsClosed s pieces terminals (all_but_root terminals) low least (mask_number s r)
closed_below s pieces terminals low root goal r least is above small =
    let done = done_below s pieces terminals low root goal r least is above in
    record {
      family = is.family;
      below = (root_mask terminals is.two).1;
      small = small;
      above = λ mask v. number_limit r (on_stack s mask v);
      trees = is.settling.masks.trees;
      own = is.settling.started;
      relaxed = λ mask p k v u some below vertex less weighs connects.
          is.settling.settled.relaxed mask p k v u some below vertex (done mask v some below vertex less) weighs connects;
      merged = λ one other mask v parts below vertex less also.
          let sum = parts_sum one other mask parts in
          is.settling.settled.merged one other mask v parts below vertex
          (done one v parts.some (omega (arith, sum, below)) vertex less)
          (done other v parts.others (omega (arith, sum, below)) vertex also);
    }

-- nothing is left to go from the root
rest_at_root : (s : Size) (pieces : List (Piece × ℕ)) (terminals : List Vertex) (low : ℕ → ℕ → ℕ) (root : Vertex) (goal : ℕ)
    (r : Row) → IsForRoot s pieces terminals low root goal r → rest_on (size_in r) terminals low goal ≡ 0
rest_at_root s pieces terminals low root goal r is =
    let last = length terminals - 1 in
    let all = all_but_root terminals in
    let mask = root_mask terminals is.two in
    let whole : length terminals ≡ suc last = omega (arith, is.two) in
    let great : 2 ^ length terminals ≡ 2 * 2 ^ last = ap (λ i. 2 ^ i) whole ∙ pow-succ' 2 last in
    let left : all_of terminals - all ≡ single last = omega (arith, great, pow_pos last) in
    ap (rest_on (size_in r) terminals low) is.is
    ∙ rest_within s pieces terminals low root goal r is all root.0 mask.0 (omega arith) is.vertex
    ∙ ap (λ m. low m root.0) left
    ∙ is.family.own last root is.last (omega (arith, great, pow_pos last, mask.0))

-- where the root is taken out its number is the least weight
pub taken_least : (s : Size) (pieces : List (Piece × ℕ)) (terminals : List Vertex) (low : ℕ → ℕ → ℕ) (root : Vertex)
    (goal : ℕ) (r : Row) (least : ℕ) → IsForRoot s pieces terminals low root goal r → IsLeastWaiting r goal
    → least ≡ number_in r goal → IsLeastWeight s pieces (InVertices terminals) least
taken_least s pieces terminals low root goal r least is waiting number =
    let key : waiting.key ≡ least = omega (
      arith,
      number,
      is.settling.masks.search.keys goal waiting.key waiting.waits,
      rest_at_root s pieces terminals low root goal r is,
    ) in
    let small : least < far = omega (arith, number, is.settling.masks.search.numbered goal waiting.key waiting.waits) in
    let closed = closed_below s pieces terminals low root goal r least is
    (λ w k waits. omega (arith, key, waiting.least w k waits)) (omega (arith, small)) in
    closed_least s pieces terminals low least (mask_number s r) root closed is.two is.last is.vertex
    (ap (number_in r) (sym is.is) ∙ sym number) small

-- where nothing waits no set joins the terminals
pub idle_apart : (s : Size) (pieces : List (Piece × ℕ)) (terminals : List Vertex) (low : ℕ → ℕ → ℕ) (root : Vertex)
    (goal : ℕ) (r : Row) → IsForRoot s pieces terminals low root goal r → ((w key : ℕ) → ¬ IsWaiting r w key)
    → NoPieceTwice pieces → AreWithinLimit pieces → ¬ Joins s (IsAllowed pieces) (InVertices terminals)
idle_apart s pieces terminals low root goal r is idle once small =
    let closed = closed_below s pieces terminals low root goal r far is (λ w k waits. absurd (idle w k waits)) (omega arith) in
    let none : far ≤ number_in r goal = ⊎_elim
    (λ has. let waits = is.settling.masks.waits has in absurd (idle goal waits.0 waits.1))
    (λ none. omega (arith, none))
    (cases_lt (number_in r goal) far) in
    closed_apart s pieces terminals low (mask_number s r) root closed is.two is.last
    (omega (arith, none, ap (number_in r) is.is)) once small
