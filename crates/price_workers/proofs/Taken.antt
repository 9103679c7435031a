-- Loads as the set of a net is taken off, and what is put back.
use Rattle.std.proofs.Common.{◌≡◌, ℕ, ◌+◌, ◌-◌, ◌<◌, ◌≤◌, ◌≢◌, Bool, cond, List, length, get_or, map, take, slice_index}
use Rattle.std.proofs.Common.{slice_set, refl, sym, ◌∙◌, ap, subst, ⊎_elim, arith, eq-eqb, ne_eqb}
use Rattle.std.proofs.lemmas.List.Folds.{list_any_at}
use Rattle.price_workers.proofs.Common.{fill_by_all, get_or-map-range_with_len, length-map-range_with_len, cases_eq, cases_lt}
use Rattle.price_workers.proofs.Common.{cond_both, holds, is_edge_of, max_tree_load, net_load, tree_load, range_with_len}
use Rattle.price_workers.proofs.Common.{get_or-set_same, get_or-set_other, get_or_past, length-set, ext_get_or, take_all, Piece}
use Rattle.price_workers.proofs.Common.{Grid, demand_on, edge_numbers, entries, size_of, ArePieces, IsCounted, IsCounted-edge}
use Rattle.price_workers.proofs.Common.{edge_number, net_load-beyond, tree_load-added, GainsTree, without_tree, max_demand}
use Rattle.price_workers.proofs.Common.{IsRising}
use Rattle.grid_base.specs.declared.edge.Edge.{Edge as EdgeNumber}
use Rattle.grid_base.specs.declared.piece.Piece.TheVariants.{Edge}
use Rattle.tree_set.proofs.Counting.{length-pieces}

-- a net uses its demand of an edge that its set holds
pub net_load-held : (g : Grid) (width : ℕ) (ps : List Piece) (i : ℕ) (d : Piece) (x : EdgeNumber) → i < length ps → get_or ps i d ≡ Edge x → net_load g width ps x.0 ≡ demand_on g width x.0
net_load-held g width ps i d x within is =
    ap (λ (b : Bool). cond b (demand_on g width x.0) 0)
    (list_any_at (is_edge_of x.0) ps i d within (ap (λ (q : Piece). is_edge_of x.0 q) is ∙ eq-eqb x.0 x.0 refl))

-- the load of the wirelength
pub tree_load-last : (g : Grid) (width : ℕ) (ps : List Piece) → tree_load g width ps (edge_numbers g) ≡ length ps
tree_load-last g width ps =
    ap (λ (b : Bool). cond b (length ps) (net_load g width ps (edge_numbers g))) (eq-eqb (edge_numbers g) (edge_numbers g) refl)

-- the load of an edge
pub tree_load-edge : (g : Grid) (width : ℕ) (ps : List Piece) (r : ℕ) → (edge_numbers g ≡ r → ⊥)
    → tree_load g width ps r ≡ net_load g width ps r
tree_load-edge g width ps r other =
    ap (λ (b : Bool). cond b (length ps) (net_load g width ps r)) (ne_eqb r (edge_numbers g) (λ same. other (sym same)))

-- what was put on one list at a place may as well be taken off the other one there, which still has it
taken_there : (k n : ℕ) (first loads : List ℕ) (f : ℕ → ℕ) → k < length first → k < length loads → f k ≤ slice_index first k
    → ((r : ℕ) → slice_index (slice_set first k (slice_index first k + n)) r ≡ slice_index loads r + f r)
    → (n ≤ slice_index loads k)
    × ((r : ℕ) → slice_index first r ≡ slice_index (slice_set loads k (slice_index loads k - n)) r + f r)
taken_there k n first loads f in_first in_loads had put =
    let more : ℕ = slice_index first k + n in
    let less : ℕ = slice_index loads k - n in
    let there : more ≡ slice_index loads k + f k = sym (get_or-set_same first k more 0 in_first) ∙ put k in
    let enough : n ≤ slice_index loads k = omega (arith, there, had) in (
      enough,
      λ r. ⊎_elim
          (λ (here : k ≡ r). subst (λ (e : ℕ). slice_index first e ≡ slice_index (slice_set loads k less) e + f e) here
          (omega (arith, there, enough, get_or-set_same loads k less 0 in_loads)))
          (λ (other : k ≡ r → ⊥).
          let apart : r ≢ k = λ same. other (sym same) in
          omega (arith, put r, get_or-set_other first k r more 0 apart, get_or-set_other loads k r less 0 apart))
          (cases_eq k r),
    )

-- the piece that a loop over a set has come to is this edge, of which a net uses so much
pub record IsNextEdge (g : Grid) (width : ℕ) (ps : List Piece) (i : ℕ) (x : EdgeNumber) (amount : ℕ) : Type 0 where
  pub rising : IsRising ps
  pub within : i < length ps
  pub beyond : Piece
  pub is : get_or ps i beyond ≡ Edge x
  pub number : x.0 < edge_numbers g
  pub value : amount ≡ demand_on g width x.0
  pub limit : demand_on g width x.0 ≤ max_demand

pub next_edge : (g : Grid) (width : ℕ) {tree ps : List Piece} {i : ℕ} (d : Piece) (x : EdgeNumber) {demand amount : ℕ} → ps ≡ tree
    → IsRising tree → ArePieces (size_of g) tree → i < length ps → get_or ps i d ≡ Edge x
    → demand ≡ demand_on g width x.0 → demand ≤ max_demand → amount ≡ demand → IsNextEdge g width ps i x amount
next_edge g width {tree = tree} {ps = ps} {i = i} d x listed rising pieces within is value limit same = record {
  rising = subst IsRising (sym listed) rising;
  within = within;
  beyond = d;
  is = is;
  number = edge_number (size_of g) ps i d x (subst (ArePieces (size_of g)) (sym listed) pieces) within is;
  value = same ∙ value;
  limit = omega (arith, value, limit);
}

-- its demand is put on its load
pub edge_put : {g : Grid} {width : ℕ} {ps : List Piece} {i : ℕ} {x : EdgeNumber} {amount : ℕ} {first loads : List ℕ}
    → IsNextEdge g width ps i x amount → length loads ≡ entries g → IsCounted g width ps i first loads
    → IsCounted g width ps (i + 1) first (slice_set loads x.0 (slice_index loads x.0 + amount))
edge_put {g = g} {width = width} {ps = ps} {i = i} {x = x} {first = first} {loads = loads} next long before =
    rw next.value (IsCounted-edge g width ps i next.beyond x first loads next.rising next.within next.is
    (omega (arith, next.number, long)) next.limit before)

-- counted backwards: it is taken from its load, which still has it
pub edge_taken : {g : Grid} {width : ℕ} {tree ps : List Piece} {i : ℕ} {x : EdgeNumber} {amount : ℕ} {first loads : List ℕ}
    → IsNextEdge g width ps i x amount → length first ≡ entries g → length loads ≡ entries g → ps ≡ tree
    → ((r : ℕ) → tree_load g width tree r ≤ slice_index first r) → IsCounted g width ps i loads first
    → (amount ≤ slice_index loads x.0)
    × IsCounted g width ps (i + 1) (slice_set loads x.0 (slice_index loads x.0 - amount)) first
edge_taken {g = g} {width = width} {ps = ps} {i = i} {x = x} {amount = amount} {first = first} {loads = loads}
    next wide long listed had before =
    let moved = edge_put next wide before in
    let most : net_load g width (take (i + 1) ps) x.0 ≤ demand_on g width x.0 = cond_both (holds (take (i + 1) ps) x.0)
    (demand_on g width x.0) 0 (λ n. n ≤ demand_on g width x.0) (λ held. omega arith) (λ off. omega arith) in
    let held : tree_load g width ps x.0 ≤ slice_index first x.0 = rw listed (had x.0) in
    let left = taken_there x.0 amount first loads (net_load g width (take (i + 1) ps)) (omega (arith, next.number, wide))
    (omega (arith, next.number, long)) (omega (
      arith,
      most,
      held,
      net_load-held g width ps i next.beyond x next.within next.is,
      tree_load-edge g width ps x.0 (λ same. omega (arith, same, next.number)),
    )) moved.value in
    (left.0, record { value = left.1; limit = moved.limit })

-- all pieces were counted
pub counted_all : {g : Grid} {width : ℕ} {tree ps : List Piece} {i : ℕ} {first loads : List ℕ} → ps ≡ tree → length ps ≤ i
    → IsCounted g width ps i first loads → (e : ℕ) → slice_index loads e ≡ slice_index first e + net_load g width tree e
counted_all {g = g} {width = width} {ps = ps} {i = i} {first = first} listed all counted e =
    counted.value e ∙ ap (λ (qs : List Piece). slice_index first e + net_load g width qs e) (take_all i ps all ∙ listed)

-- where the edges were put on, there is room for the pieces
pub last_rises : (g : Grid) (width : ℕ) (ps : List Piece) (first loads : List ℕ) → IsRising ps → ArePieces (size_of g) ps
    → ((e : ℕ) → slice_index loads e ≡ slice_index first e + net_load g width ps e)
    → slice_index loads (edge_numbers g) + length ps ≤ slice_index first (edge_numbers g) + max_tree_load
last_rises g width ps first loads rising pieces edges =
    omega (
      arith,
      length-pieces (size_of g) ps rising pieces,
      net_load-beyond g width ps (edge_numbers g) pieces (omega arith),
      (size_of g).within.vertex_limit,
      edges (edge_numbers g),
    )

-- where the edges were taken and the number of pieces is taken too, the set's load is
pub set_taken : (g : Grid) (width : ℕ) (ps : List Piece) (first loads : List ℕ) → ArePieces (size_of g) ps
    → length first ≡ entries g → length loads ≡ entries g
    → ((e : ℕ) → slice_index first e ≡ slice_index loads e + net_load g width ps e)
    → ((r : ℕ) → tree_load g width ps r ≤ slice_index first r)
    → (length ps ≤ slice_index loads (edge_numbers g))
    × (slice_set loads (edge_numbers g) (slice_index loads (edge_numbers g) - length ps) ≡ without_tree g width ps first)
set_taken g width ps first loads pieces wide long edges had =
    let last : ℕ = edge_numbers g in
    let left = taken_there last (length ps) first loads (tree_load g width ps) (omega (arith, wide)) (omega (arith, long))
    (had last) (λ r. tree_load-added g width ps loads first r pieces wide edges) in (
      left.0,
      fill_by_all (λ r. slice_index first r - tree_load g width ps r) _ (length first) 0
          (length-set loads last _ ∙ long ∙ sym wide) (λ r short. omega (arith, left.1 r)),
    )

-- an entry of the list without the set
pub without_tree-at : (g : Grid) (width : ℕ) (ps : List Piece) (old : List ℕ) (r : ℕ) → slice_index (without_tree g width ps old) r ≡ slice_index old r - tree_load g width ps r
without_tree-at g width ps old r =
    let f : ℕ → ℕ = λ k. slice_index old k - tree_load g width ps k in
    ⊎_elim
    (λ (within : r < length old). get_or-map-range_with_len f 0 (length old) r r 0 within (omega arith))
    (λ (beyond : length old ≤ r).
    omega (
      arith,
      get_or_past (map f (range_with_len 0 (length old))) r 0 (omega (arith, beyond, length-map-range_with_len f 0 (length old))),
      get_or_past old r 0 beyond,
    ))
    (cases_lt r (length old))

-- where the set is put on again, all is as before
pub put_back : (g : Grid) (width : ℕ) (ps : List Piece) (old new : List ℕ) → length new ≡ length old → ((r : ℕ) → tree_load g width ps r ≤ slice_index old r)
    → GainsTree g width ps (without_tree g width ps old) new → new ≡ old
put_back g width ps old new long had gains =
    ext_get_or 0 new old long (λ r short. omega (arith, gains r, without_tree-at g width ps old r, had r))
