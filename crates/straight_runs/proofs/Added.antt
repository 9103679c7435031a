-- What the demand of a run changes of the loads along lines.
use Rattle.std.proofs.Common.{◌≡◌, ◌≢◌, ℕ, zero, suc, ◌+◌, ◌-◌, ◌*◌, ◌%◌, ◌^◌, ◌<◌, ◌≤◌, ◌==◌, cond, Bool, true, false, Some, None, List, length, get_or, slice_index, slice_set, refl, sym, ◌∙◌, ap, subst, ⊎_elim, arith, eq-eqb, ne_eqb}
use Rattle.std.proofs.lemmas.Bool.{cases_Bool, cases_eq, false≢true}
use Rattle.std.proofs.lemmas.List.{get_or-set_same, get_or-set_other, length-set}
use Rattle.std.proofs.lemmas.List.Folds.{Any-from_list_any, list_any_at, list_any_none}
use Rattle.std.proofs.lemmas.List.FromFn.{length-map-range_with_len, get_or-map-range_with_len}
use Rattle.std.proofs.lemmas.Nat.{mul-le}
use Rattle.grid_base.specs.declared.axis.Axis.{Axis}
use Rattle.grid_base.specs.declared.axis.Axis.TheVariants.{X, Y}
use Rattle.grid_base.specs.declared.piece.Piece.TheVariants.{Edge}
use Rattle.grid_base.specs.declared.size.Size.{Size}
use Rattle.grid_base.specs.Lines.{stride}
use Rattle.grid_base.specs.Numbers.{vertices, edge_axis, edge_along, cols}
use Rattle.grid_base.proofs.Pieces.{is_even, is_odd}
use Rattle.tree_set.specs.Loads.{holds, is_edge_of}
use Rattle.straight_runs.specs.declared.direction.Direction.{Direction}
use Rattle.straight_runs.specs.declared.direction.Direction.TheVariants.{East, North, Up}
use Rattle.straight_runs.specs.declared.run.Run.{Run}
use Rattle.straight_runs.specs.Differences.{AreDifferences, edge_stride}
use Rattle.straight_runs.specs.Lines.{axis_of, rise, nth_piece, piece_towards}
use Rattle.straight_runs.specs.LoadSums.{run_load}
use Rattle.straight_runs.specs.Runs.{IsStraightRun, run_piece, run_pieces, run_end}
use Rattle.straight_runs.proofs.Lines.{rise-positive, run_ends}
use Rattle.straight_runs.proofs.Sums.{same_axis}

-- a test finds exactly the c numbers that follow each other from b on in steps of q
pub record FindsRun (test : ℕ → Bool) (b q c : ℕ) : Type 0 where
  pub found : (e : ℕ) → test e ≡ true → (i : ℕ) × (i < c) × (e ≡ b + i * q)
  pub finds : (i : ℕ) → i < c → test (b + i * q) ≡ true

module _ (test : ℕ → Bool) (b q c : ℕ) (some : 0 < c) (rises : 0 < q) (run : FindsRun test b q c) where
  not_found : (e : ℕ) → ((i : ℕ) → i < c → e ≡ b + i * q → ⊥) → test e ≡ false
  not_found e none = ⊎_elim
      (λ (yes : test e ≡ true). let at = run.found e yes in absurd (none at.0 at.1 at.2))
      (λ (no : test e ≡ false). no)
      (cases_Bool (test e))

  found_at : (i e : ℕ) → i < c → e ≡ b + i * q → test e ≡ true
  found_at i e below is = ap test is ∙ run.finds i below

  begin_found : test b ≡ true
  begin_found = found_at 0 b some (omega arith)

  before_begin : (e : ℕ) → e + q ≡ b → test e ≡ false
  before_begin e is = not_found e (λ i below at. omega (arith, at, is, rises))

  end_not_found : test (b + c * q) ≡ false
  end_not_found = not_found (b + c * q) (λ i below at. omega (arith, at, rises, mul-le (suc i) q c q below (omega arith)))

  before_end : (e : ℕ) → e + q ≡ b + c * q → test e ≡ true
  before_end e is =
      let last : c ≡ suc (c - 1) = omega (arith, some) in
      let steps : c * q ≡ (c - 1) * q + q = ap (λ n. n * q) last ∙ omega arith in
      found_at (c - 1) e (omega (arith, some)) (omega (arith, is, steps))

  from_before : (e i : ℕ) → i < c → e ≡ b + i * q → e + q ≢ b + c * q → test (e + q) ≡ true
  from_before e i below at not_end = ⊎_elim
      (λ (last : suc i ≡ c). absurd (not_end (omega (arith, at, ap (λ n. n * q) last))))
      (λ (more : suc i ≢ c). found_at (suc i) (e + q) (omega (arith, below, more)) (omega (arith, at)))
      (cases_eq (suc i) c)

  from_next : (e i : ℕ) → i < c → e + q ≡ b + i * q → e + q ≢ b → test e ≡ true
  from_next e zero below at not_begin = absurd (not_begin (omega (arith, at)))
  from_next e (suc i) below at not_begin = found_at i e (omega (arith, below)) (omega (arith, at))

  same_between : (e : ℕ) → e + q ≢ b → e + q ≢ b + c * q → test (e + q) ≡ test e
  same_between e not_begin not_end = ⊎_elim
      (λ (yes : test e ≡ true). let at = run.found e yes in from_before e at.0 at.1 at.2 not_end ∙ sym yes)
      (λ (no : test e ≡ false). ⊎_elim
      (λ (next : test (e + q) ≡ true). let at = run.found (e + q) next in absurd (false≢true (sym no ∙ from_next e at.0 at.1 at.2 not_begin)))
      (λ (none : test (e + q) ≡ false). none ∙ sym no)
      (cases_Bool (test (e + q))))
      (cases_Bool (test e))

-- the difference where a run begins, where it ends, and elsewhere; numbers wrap
begins : (load demand other next : ℕ) → (load + other) % 2 ^ 64 ≡ next % 2 ^ 64 → (load + 0 + (other + demand) % 2 ^ 64) % 2 ^ 64 ≡ (next + demand) % 2 ^ 64
begins load demand other next is = omega (arith, is)

ends : (load demand other next : ℕ) → demand ≤ 2 ^ 64 → (load + other) % 2 ^ 64 ≡ next % 2 ^ 64 → (load + demand + (other + (2 ^ 64 - demand)) % 2 ^ 64) % 2 ^ 64 ≡ (next + 0) % 2 ^ 64
ends load demand other next small is = omega (arith, is, small)

goes : (load more other next : ℕ) → (load + other) % 2 ^ 64 ≡ next % 2 ^ 64 → (load + more + other) % 2 ^ 64 ≡ (next + more) % 2 ^ 64
goes load more other next is = omega (arith, is)

starts : (load demand other : ℕ) → other ≡ load % 2 ^ 64 → (other + demand) % 2 ^ 64 ≡ (load + demand) % 2 ^ 64
starts load demand other is = omega (arith, is)

stride_next : (s : Size) (e : ℕ) → edge_stride s (e + edge_stride s e) ≡ edge_stride s e
stride_next s e = ap (λ axis. 2 * stride axis s) (same_axis e (stride (edge_axis e) s))

stride_on : (s : Size) (b q i : ℕ) → edge_stride s b ≡ q → edge_stride s (b + i * q) ≡ q
stride_on s b q i is =
    let steps : b + i * q ≡ b + 2 * (i * stride (edge_axis b) s) = omega (arith, ap (λ n. i * n) is) in
    ap (λ n. edge_stride s n) steps ∙ ap (λ axis. 2 * stride axis s) (same_axis b (i * stride (edge_axis b) s)) ∙ is

-- the table with a demand where a run begins, and without it again where it ends
abbrev pub raised : List ℕ → ℕ → ℕ → List ℕ
raised table b demand = slice_set table b ((slice_index table b + demand) % 2 ^ 64)

abbrev pub lowered : List ℕ → ℕ → ℕ → List ℕ
lowered table end demand = slice_set table end ((slice_index table end + (2 ^ 64 - demand)) % 2 ^ 64)

module _ (s : Size) (load : ℕ → ℕ) (table : List ℕ) (test : ℕ → Bool) (b q c demand : ℕ) (run : FindsRun test b q c) (some : 0 < c) (rises : 0 < q) (along : edge_stride s b ≡ q)
    (inside : b + c * q < 2 * vertices s) (long : length table ≡ 2 * vertices s) (small : demand ≤ 2 ^ 64) (are : AreDifferences s load table) where
  apart : b < b + c * q
  apart = omega (arith, mul-le 1 q c q (omega arith) (omega arith))

  read_begin : slice_index (lowered (raised table b demand) (b + c * q) demand) b ≡ (slice_index table b + demand) % 2 ^ 64
  read_begin =
      get_or-set_other (raised table b demand) (b + c * q) b ((slice_index (raised table b demand) (b + c * q) + (2 ^ 64 - demand)) % 2 ^ 64) 0 (λ is. omega (arith, apart, is))
      ∙ get_or-set_same table b ((slice_index table b + demand) % 2 ^ 64) 0 (omega (arith, apart, inside, long))

  read_end : slice_index (lowered (raised table b demand) (b + c * q) demand) (b + c * q) ≡ (slice_index table (b + c * q) + (2 ^ 64 - demand)) % 2 ^ 64
  read_end =
      get_or-set_same (raised table b demand) (b + c * q) ((slice_index (raised table b demand) (b + c * q) + (2 ^ 64 - demand)) % 2 ^ 64) 0
      (omega (arith, inside, long, length-set table b ((slice_index table b + demand) % 2 ^ 64)))
      ∙ ap (λ n. (n + (2 ^ 64 - demand)) % 2 ^ 64) (get_or-set_other table b (b + c * q) ((slice_index table b + demand) % 2 ^ 64) 0 (λ is. omega (arith, apart, is)))

  read_other : (e : ℕ) → e ≢ b → e ≢ b + c * q → slice_index (lowered (raised table b demand) (b + c * q) demand) e ≡ slice_index table e
  read_other e not_begin not_end =
      get_or-set_other (raised table b demand) (b + c * q) e ((slice_index (raised table b demand) (b + c * q) + (2 ^ 64 - demand)) % 2 ^ 64) 0 not_end
      ∙ get_or-set_other table b e ((slice_index table b + demand) % 2 ^ 64) 0 not_begin

  first_on : (e : ℕ) → e < 2 * vertices s → e < edge_stride s e → slice_index (lowered (raised table b demand) (b + c * q) demand) e ≡ (load e + cond (test e) demand 0) % 2 ^ 64
  first_on e within first = ⊎_elim
      (λ (here : e ≡ b).
      rw (here, begin_found test b q c some rises run, read_begin) (starts (load b) demand (slice_index table b) (subst (λ n. slice_index table n ≡ load n % 2 ^ 64) here (are.first e within first))))
      (λ (not_begin : e ≢ b).
      let none : (i : ℕ) → e ≡ b + i * q → i ≡ 0 = λ i at. ⊎_elim
      (λ (is_zero : i ≡ 0). is_zero)
      (λ (more : i ≢ 0). absurd (omega (arith, first, at, ap (λ n. edge_stride s n) at, stride_on s b q i along, mul-le 1 q i q (omega (arith, more)) (omega arith))))
      (cases_eq i 0) in
      let not_end : e ≢ b + c * q = λ at. omega (arith, some, none c at) in
      let off : test e ≡ false = not_found test b q c some rises run e (λ i below at. not_begin (omega (arith, at, ap (λ n. n * q) (none i at)))) in
      rw (off, read_other e not_begin not_end) (omega (arith, are.first e within first)))
      (cases_eq e b)

  next_on : (e : ℕ) → e + edge_stride s e < 2 * vertices s → (load e + cond (test e) demand 0 + slice_index (lowered (raised table b demand) (b + c * q) demand) (e + edge_stride s e)) % 2 ^ 64 ≡ (load (e + edge_stride s e) + cond (test (e + edge_stride s e)) demand 0) % 2 ^ 64
  next_on e within =
      let t = edge_stride s e in
      let step = are.next e within in
      ⊎_elim
      (λ (here : e + t ≡ b).
      let by : t ≡ q = sym (stride_next s e) ∙ ap (λ n. edge_stride s n) here ∙ along in
      rw (before_begin test b q c some rises run e (omega (arith, here, by)), here, begin_found test b q c some rises run, read_begin)
      (begins (load e) demand (slice_index table b) (load b) (subst (λ n. (load e + slice_index table n) % 2 ^ 64 ≡ load n % 2 ^ 64) here step)))
      (λ (not_begin : e + t ≢ b). ⊎_elim
      (λ (last : e + t ≡ b + c * q).
      let by : t ≡ q = sym (stride_next s e) ∙ ap (λ n. edge_stride s n) last ∙ stride_on s b q c along in
      rw (before_end test b q c some rises run e (omega (arith, last, by)), last, end_not_found test b q c some rises run, read_end)
      (ends (load e) demand (slice_index table (b + c * q)) (load (b + c * q)) small (subst (λ n. (load e + slice_index table n) % 2 ^ 64 ≡ load n % 2 ^ 64) last step)))
      (λ (not_end : e + t ≢ b + c * q).
      let same : test (e + t) ≡ test e = ⊎_elim
      (λ (by : t ≡ q). rw by (same_between test b q c some rises run e (λ at. not_begin (omega (arith, at, by))) (λ at. not_end (omega (arith, at, by)))))
      (λ (off : t ≢ q).
      not_found test b q c some rises run (e + t) (λ i below at. off (sym (stride_next s e) ∙ ap (λ n. edge_stride s n) at ∙ stride_on s b q i along))
      ∙ sym (not_found test b q c some rises run e (λ i below at. off (ap (λ n. edge_stride s n) at ∙ stride_on s b q i along))))
      (cases_eq t q) in
      rw (same, read_other (e + t) not_begin not_end) (goes (load e) (cond (test e) demand 0) (slice_index table (e + t)) (load (e + t)) step))
      (cases_eq (e + t) (b + c * q)))
      (cases_eq (e + t) b)

  -- the differences with a run's demand
  pub with_run : AreDifferences s (λ e. load e + cond (test e) demand 0) (lowered (raised table b demand) (b + c * q) demand)
  with_run = record { first = first_on; next = next_on }

-- the same loads by another name
pub same_differences : (s : Size) (load more : ℕ → ℕ) (table : List ℕ) → ((e : ℕ) → load e ≡ more e) → AreDifferences s load table → AreDifferences s more table
same_differences s load more table same are = record {
  first = λ e within first. are.first e within first ∙ ap (λ n. n % 2 ^ 64) (same e);
  next = λ e within.
      ap (λ n. (n + slice_index table (e + edge_stride s e)) % 2 ^ 64) (sym (same e)) ∙ are.next e within ∙ ap (λ n. n % 2 ^ 64) (same (e + edge_stride s e));
}

pub edge_below : (a : Axis) (v n : ℕ) → v < n → (edge_along a v).0 < 2 * n
edge_below X v n below = omega arith
edge_below Y v n below = omega arith

no_edge_towards : (s : Size) (d : Direction) (v e : ℕ) → axis_of d ≡ None → is_edge_of e (piece_towards d v) ≡ false
no_edge_towards s East v e is = absurd (cc)
no_edge_towards s North v e is = absurd (cc)
no_edge_towards s Up v e is = refl

-- the edges of a run by their numbers
run_edge : (s : Size) (d : Direction) (a : Axis) (v i : ℕ) → axis_of d ≡ Some a → nth_piece s d v i ≡ Edge (record { 0 = (edge_along a v).0 + i * (2 * rise d s) })
run_edge s East X v i is = let same : 2 * (v + i * 1) ≡ 2 * v + i * (2 * 1) = omega arith in ap (λ n. Edge (record { 0 = n })) same
run_edge s East Y v i is = absurd (cc)
run_edge s North X v i is = absurd (cc)
run_edge s North Y v i is = let same : 2 * (v + i * cols s) + 1 ≡ 2 * v + 1 + i * (2 * cols s) = omega arith in ap (λ n. Edge (record { 0 = n })) same
run_edge s Up a v i is = absurd (cc)

run_stride : (s : Size) (d : Direction) (a : Axis) (v : ℕ) → axis_of d ≡ Some a → edge_stride s (edge_along a v).0 ≡ 2 * rise d s
run_stride s East X v is = rw (is_even v) refl
run_stride s East Y v is = absurd (cc)
run_stride s North X v is = absurd (cc)
run_stride s North Y v is = rw (is_odd v) refl
run_stride s Up a v is = absurd (cc)

-- where it ends, as an edge number
pub end_edge : (s : Size) (run : Run) (a : Axis) → axis_of run.direction ≡ Some a → (edge_along a (run_end s run)).0 ≡ (edge_along a run.first.0).0 + run.count * (2 * rise run.direction s)
end_edge s run X is = omega arith
end_edge s run Y is = omega arith

-- a run has the edges with these numbers
pub finds_run : (s : Size) (run : Run) (a : Axis) → axis_of run.direction ≡ Some a → FindsRun (holds (run_pieces s run)) (edge_along a run.first.0).0 (2 * rise run.direction s) run.count
finds_run s run a is =
    let b = (edge_along a run.first.0).0 in
    let q = 2 * rise run.direction s in
    let pieces = run_pieces s run in
    let number : ℕ → ℕ = λ i. b + i * q in
    record {
      found = λ e held.
          let some = Any-from_list_any (is_edge_of e) pieces held in
          let below : some.0 < run.count = omega (arith, some.2, length-map-range_with_len (run_piece s run) 0 run.count) in
          let at : some.1 ≡ Edge (record { 0 = b + some.0 * q }) =
          sym some.3 ∙ get_or-map-range_with_len (run_piece s run) 0 run.count some.0 some.0 some.1 below (omega arith) ∙ run_edge s run.direction a run.first.0 some.0 is in
          let passes : (b + some.0 * q == e) ≡ true = subst (λ p. is_edge_of e p ≡ true) at some.4 in (
            some.0,
            below,
            ⊎_elim
                (λ (same : b + some.0 * q ≡ e). sym same)
                (λ (other : b + some.0 * q ≢ e). absurd (false≢true (sym (ne_eqb (b + some.0 * q) e other) ∙ passes)))
                (cases_eq (b + some.0 * q) e),
          );
      finds = λ i below.
          let first = run_piece s run 0 in
          let within : i < length pieces = omega (arith, below, length-map-range_with_len (run_piece s run) 0 run.count) in
          let at : get_or pieces i first ≡ Edge (record { 0 = b + i * q }) =
          get_or-map-range_with_len (run_piece s run) 0 run.count i i first below (omega arith) ∙ run_edge s run.direction a run.first.0 i is in
          list_any_at (is_edge_of (b + i * q)) pieces i first within (subst (λ p. is_edge_of (b + i * q) p ≡ true) (sym at) (eq-eqb (b + i * q) (b + i * q) refl));
    }

-- a run of edges is added by two changes
pub with_edges : (s : Size) (load : ℕ → ℕ) (table : List ℕ) (run : Run) (a : Axis) (demand : ℕ) → axis_of run.direction ≡ Some a → IsStraightRun s run → length table ≡ 2 * vertices s → demand ≤ 2 ^ 64 → AreDifferences s load table → AreDifferences s (λ e. load e + run_load s run demand e) (lowered (raised table (edge_along a run.first.0).0 demand) (edge_along a (run_end s run)).0 demand)
with_edges s load table run a demand is is_run long small are =
    let b = (edge_along a run.first.0).0 in
    let q = 2 * rise run.direction s in
    let end = end_edge s run a is in
    let below : (edge_along a (run_end s run)).0 < 2 * vertices s = edge_below a (run_end s run) (vertices s) (run_ends s run is_run) in
    subst (λ n. AreDifferences s (λ e. load e + run_load s run demand e) (lowered (raised table b demand) n demand)) (sym end)
    (with_run s load table (holds (run_pieces s run)) b q run.count demand (finds_run s run a is) is_run.some (omega (arith, rise-positive run.direction s))
    (run_stride s run.direction a run.first.0 is) (omega (arith, end, below)) long small are)

via_is_no_edge : (s : Size) (run : Run) (e : ℕ) → axis_of run.direction ≡ None → (i : ℕ) → is_edge_of e (run_piece s run i) ≡ false
via_is_no_edge s run e is i = no_edge_towards s run.direction (run.first.0 + i * rise run.direction s) e is

pub no_edge_held : (s : Size) (run : Run) (e : ℕ) → axis_of run.direction ≡ None → holds (run_pieces s run) e ≡ false
no_edge_held s run e is =
    list_any_none (is_edge_of e) (run_pieces s run)
    (λ k p within.
    let below : k < run.count = omega (arith, within, length-map-range_with_len (run_piece s run) 0 run.count) in
    ap (is_edge_of e) (get_or-map-range_with_len (run_piece s run) 0 run.count k k p below (omega arith)) ∙ via_is_no_edge s run e is k)

-- a run of vias adds nothing
pub with_vias : (s : Size) (load : ℕ → ℕ) (table : List ℕ) (run : Run) (demand : ℕ) → axis_of run.direction ≡ None → AreDifferences s load table → AreDifferences s (λ e. load e + run_load s run demand e) table
with_vias s load table run demand is are =
    same_differences s load (λ e. load e + run_load s run demand e) table (λ e. rw (no_edge_held s run e is) (omega arith)) are
