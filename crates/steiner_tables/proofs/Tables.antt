-- A table that holds has for each mask and vertex a number that is at most the weight of every set that joins the vertex
-- and the mask's terminals. One piece at the vertex is taken out of the set, and the mask divided by what is still reached.
use Rattle.std.proofs.Common.{◌≡◌, ◌≢◌, ℕ, zero, suc, ◌+◌, ◌^◌, ◌<◌, ◌≤◌, ◌==◌, ◌⊎◌, Bool, true, List, length, get_or, refl}
use Rattle.std.proofs.Common.{sym, ◌∙◌, ap, subst, inl, inr, ⊎_elim, arith}
use Rattle.std.specs.Prelude.{not, filter}
use Rattle.std.specs.List.{Contains}
use Rattle.std.proofs.lemmas.Bool.{cases_eq}
use Rattle.std.proofs.lemmas.Bool.Decides.{nat_tests}
use Rattle.std.proofs.Math.Pow.{lt_of_le_ones}
use Rattle.std.proofs.lemmas.List.Filters.{length-filter_both, sum_by-filter_both}
use Rattle.std.proofs.lemmas.Option.{slice_get-get_or, get_or_from_slice_get}
use Rattle.grid_base.specs.declared.piece.Piece.{Piece}
use Rattle.grid_base.specs.declared.size.Size.{Size}
use Rattle.grid_base.specs.declared.vertex.Vertex.{Vertex}
use Rattle.grid_base.specs.Lists.{At}
use Rattle.grid_base.specs.Numbers.{IsVertex, Connects, start_of}
use Rattle.grid_base.specs.Walks.{AreLinked, WalkBetween, Joins}
use Rattle.grid_base.proofs.Chosen.{Contains-filter, left_by_filter}
use Rattle.grid_base.proofs.Walks.{WalkBetween-refl, WalkBetween-trans, WalkBetween-piece, closed_under_walks, linked_vertex}
use Rattle.grid_base.proofs.Walks.{walk_vertices}
use Rattle.grid_base.proofs.Pieces.{connects_back}
use Rattle.grid_graph.specs.Weighed.{Weighs, IsAllowed}
use Rattle.steiner_tables.specs.Masks.{bit, single, all_of, AreParts, WithVertex}
use Rattle.label_search.specs.Sets.{IsSetOf, weight}
use Rattle.steiner_tables.specs.Tables.{IsHoldingTable}
use Rattle.label_search.proofs.Forests.{IsForest, forest, one_mark, mark_joins}
use Rattle.label_search.proofs.Law.{Splits, first_step, one_end, parted, splits}
use Rattle.steiner_tables.proofs.Masks.{IsDivided, bit-small, divided, parts_sum, shared_sum, some_bit, two_parts}

-- a set joins a vertex with each terminal of a mask
abbrev ReachesMask : Size → List Vertex → List (Piece × ℕ) → ℕ → ℕ → Type 0
ReachesMask s terminals set mask v = (i : ℕ) (t : Vertex) → At terminals i t → bit mask i ≡ 1
    → WalkBetween s (IsAllowed set) v t.0

-- what a table is known for, over sets of at most so many pieces
abbrev IsKnownFor : Size → List (Piece × ℕ) → List Vertex → ℕ → (ℕ → ℕ → ℕ) → ℕ → Type 0
IsKnownFor s pieces terminals last number n =
    (set : List (Piece × ℕ)) (mask v : ℕ) → length set ≤ n → ((x : Piece × ℕ) → Contains set x → Contains pieces x) → 0 < mask
    → mask ≤ last →
    ReachesMask s terminals set mask v → number mask v ≤ weight set

nowhere : Vertex
nowhere = record { 0 = 0 }

-- a terminal by its place
terminal_at : List Vertex → ℕ → Vertex
terminal_at terminals i = get_or terminals i nowhere

terminal_at-at : (terminals : List Vertex) (i : ℕ) → i < length terminals → At terminals i (terminal_at terminals i)
unfolding terminal_at
terminal_at-at terminals i inside = slice_get-get_or terminals i nowhere inside

terminal_at-is : (terminals : List Vertex) (i : ℕ) (t : Vertex) → At terminals i t → terminal_at terminals i ≡ t
unfolding terminal_at
terminal_at-is terminals i t at = get_or_from_slice_get terminals i t nowhere at

bit_whole : (one other mask i : ℕ) → bit mask i ≡ bit one i + bit other i → (bit one i ≡ 1) ⊎ (bit other i ≡ 1) → bit mask i ≡ 1
bit_whole one other mask i shared has = ⊎_elim (λ first. omega (arith, first, shared, bit-small mask i))
    (λ second. omega (arith, second, shared, bit-small mask i)) has

-- the part of a mask that is reached where the mask is
reaches_one : (s : Size) (terminals : List Vertex) (set : List (Piece × ℕ)) (one other mask v : ℕ) → AreParts one other mask
    → ReachesMask s terminals set mask v → ReachesMask s terminals set one v
reaches_one s terminals set one other mask v parts reaches i t at has =
    reaches i t at (bit_whole one other mask i (parts.shared i) (inl has))

reaches_other : (s : Size) (terminals : List Vertex) (set : List (Piece × ℕ)) (one other mask v : ℕ) → AreParts one other mask
    → ReachesMask s terminals set mask v → ReachesMask s terminals set other v
reaches_other s terminals set one other mask v parts reaches i t at has =
    reaches i t at (bit_whole one other mask i (parts.shared i) (inr has))

-- a number is 0 where its mask's terminals all stand at the vertex; else the set has a piece there
some_piece : (s : Size) (pieces set : List (Piece × ℕ)) (terminals : List Vertex) (last : ℕ) (number : ℕ → ℕ → ℕ) (v : ℕ)
    → IsHoldingTable s pieces terminals last number → last ≤ all_of terminals → (n mask : ℕ) → mask ≤ n → 0 < mask → mask ≤ last
    →
    ReachesMask s terminals set mask v → (number mask v ≡ 0) ⊎ ((u : ℕ) × AreLinked s (IsAllowed set) v u)
some_piece s pieces set terminals last number v holds bits zero mask few some within reaches = absurd (omega arith)
some_piece s pieces set terminals last number v holds bits (suc n) mask few some within reaches =
    let small = lt_of_le_ones (length terminals) (omega (arith, bits, within)) in
    let has = some_bit (length terminals) mask some small in
    let t = terminal_at terminals has.place in
    let at = terminal_at-at terminals has.place has.inside in
    let walk = reaches has.place t at has.has in
    ⊎_elim
    (λ here. ⊎_elim
    (λ alone. inl (ap (λ m. number m v) alone ∙ ap (number (single has.place)) here
    ∙ holds.own has.place t at (subst (λ m. m ≤ last) alone within)))
    (λ beside.
    let halves = two_parts (length terminals) mask has.place small has.has beside in
    let one = halves.0 in
    let other = halves.1 in
    let parts = halves.2 in
    let sum = parts_sum one other mask parts in
    ⊎_elim
    (λ first. ⊎_elim
    (λ second. inl (omega (
      arith,
      first,
      second,
      holds.splits one other mask v parts within (walk_vertices s (IsAllowed set) v t.0 walk).0,
    )))
    (λ goes. inr goes)
    (some_piece s pieces set terminals last number v holds bits n other (omega (arith, sum, parts.some)) parts.others
    (omega (arith, sum)) (reaches_other s terminals set one other mask v parts reaches)))
    (λ goes. inr goes)
    (some_piece s pieces set terminals last number v holds bits n one (omega (arith, sum, parts.others)) parts.some
    (omega (arith, sum)) (reaches_one s terminals set one other mask v parts reaches)))
    has.alone)
    (λ goes. inr (goes.next, goes.link))
    (first_step s (IsAllowed set) v t.0 walk)

-- without a piece at v, what v reaches is reached by v or by the other end
onward : (s : Size) (set : List (Piece × ℕ)) (x : Piece × ℕ) (split : Splits set x) (v u t : ℕ) → Connects s x.0 v u
    → WalkBetween s (IsAllowed set) v t → WalkBetween s (IsAllowed split.rest) v t ⊎ WalkBetween s (IsAllowed split.rest) u t
onward s set x split v u t connects walk = ⊎_elim
    (λ without. inl without)
    (λ uses. ⊎_elim
    (λ at_v. inl (subst (λ w. WalkBetween s (IsAllowed split.rest) w t) at_v uses.behind))
    (λ at_u. inr (subst (λ w. WalkBetween s (IsAllowed split.rest) w t) at_u uses.behind))
    (one_end s x.0 v u uses.enters uses.leaves connects uses.connects))
    (parted s (IsAllowed split.rest) (IsAllowed set) x.0
    (λ q in_set. ⊎_elim (λ same. inl (ap (λ (y : Piece × ℕ). y.0) same)) (λ other. inr (in_set.0, other))
    (split.only (q, in_set.0) in_set.1))
    v t walk)

-- a walk stays within the pieces that pass a test which those of its mark pass
walk_within : (s : Size) (set : List (Piece × ℕ)) (f : IsForest s set) (test : Piece × ℕ → Bool) (a : ℕ)
    → ((x : Piece × ℕ) → f.mark (start_of x.0) ≡ f.mark a → test x ≡ true) → (b : ℕ) → WalkBetween s (IsAllowed set) a b
    → WalkBetween s (IsAllowed (filter test set)) a b
walk_within s set f test a passes b walk =
    let part = filter test set in
    let IsWithin : ℕ → Type 0 = λ w. WalkBetween s (IsAllowed part) a w × (f.mark a ≡ f.mark w) in
    let whole : IsWithin b = closed_under_walks s (IsAllowed set) IsWithin
    (λ w y before link.
    let p = link.piece in
    let on = f.linked p w y link.in_set link.connects in
    let start : f.mark (start_of p) ≡ f.mark a = ⊎_elim
    (λ goes. ap f.mark goes.1 ∙ sym before.1)
    (λ goes. ap f.mark goes.1 ∙ sym on ∙ sym before.1)
    link.connects in
    let at : IsAllowed part p = (
      link.in_set.0,
      Contains-filter test set (p, link.in_set.0) (passes (p, link.in_set.0) start) link.in_set.1,
    ) in (
      WalkBetween-trans s (IsAllowed part) a w y before.0 (WalkBetween-piece s (IsAllowed part) p w y at link.connects),
      before.1
          ∙ on,
    ))
    a b (WalkBetween-refl s (IsAllowed part) a (walk_vertices s (IsAllowed set) a b walk).0, refl) walk in
    whole.0

-- a terminal has the mark of a vertex
abbrev IsNear : (s : Size) (set : List (Piece × ℕ)) → IsForest s set → List Vertex → ℕ → ℕ → Type 0
IsNear s set f terminals v i = f.mark (terminal_at terminals i).0 ≡ f.mark v

-- a piece at v is taken out of a set, and the mask divided by the terminals that v still reaches
record IsTakenOut (s : Size) (terminals : List Vertex) (set : List (Piece × ℕ)) (mask v u k : ℕ) : Type 0 where
  rest : List (Piece × ℕ)
  forest : IsForest s rest
  shorter : length rest + 1 ≡ length set
  weighs : weight set ≡ k + weight rest
  kept : (y : Piece × ℕ) → Contains rest y → Contains set y
  parts : IsDivided (IsNear s rest forest terminals v) mask
  near : ReachesMask s terminals rest parts.one v
  far : ReachesMask s terminals rest parts.other u

taken_out : (s : Size) (terminals : List Vertex) (set : List (Piece × ℕ)) (mask v u k : ℕ) (p : Piece)
    → mask < 2 ^ length terminals → IsVertex s v → Contains set (p, k) → Connects s p v u → ReachesMask s terminals set mask v
    → IsTakenOut s terminals set mask v u k
taken_out s terminals set mask v u k p small vertex at connects reaches =
    let split = splits set (p, k) at in
    let rest = split.rest in
    let f = forest s rest in
    let d = divided (IsNear s rest f terminals v) (λ i. cases_eq (f.mark (terminal_at terminals i).0) (f.mark v))
    (length terminals) mask small in
    let whole : (i : ℕ) → (bit d.one i ≡ 1) ⊎ (bit d.other i ≡ 1) → bit mask i ≡ 1 =
    λ i. bit_whole d.one d.other mask i (d.shared i) in
    let its_mark : (i : ℕ) (t : Vertex) → At terminals i t → f.mark (terminal_at terminals i).0 ≡ f.mark t.0 =
    λ i t is. ap (λ (w : Vertex). f.mark w.0) (terminal_at-is terminals i t is) in
    record {
      rest = rest;
      forest = f;
      shorter = split.shorter;
      weighs = split.weighs;
      kept = split.kept;
      parts = d;
      near = λ i t is has. mark_joins s rest f v t.0 vertex
          (walk_vertices s (IsAllowed set) v t.0 (reaches i t is (whole i (inl has)))).1
          (sym (d.in_one i has) ∙ its_mark i t is);
      far = λ i t is has. ⊎_elim
          (λ near. absurd (d.in_other i has (its_mark i t is ∙ sym (one_mark s rest f v t.0 near))))
          (λ far. far)
          (onward s set (p, k) split v u t.0 connects (reaches i t is (whole i (inr has))));
    }

-- where something is left to the other end, it has another mark
ends_apart : (s : Size) (terminals : List Vertex) (set : List (Piece × ℕ)) (mask v u k : ℕ) → mask < 2 ^ length terminals
    → (out : IsTakenOut s terminals set mask v u k) → 0 < out.parts.other → out.forest.mark u ≢ out.forest.mark v
ends_apart s terminals set mask v u k small out some same =
    let sum = shared_sum out.parts.one out.parts.other mask out.parts.shared in
    let has = some_bit (length terminals) out.parts.other some (omega (arith, sum)) in
    let t = terminal_at terminals has.place in
    out.parts.in_other has.place has.has (sym (one_mark s out.rest out.forest u t.0
    (out.far has.place t (terminal_at-at terminals has.place has.inside) has.has)) ∙ same)

-- both ends reach terminals: their pieces are two sets without a common piece
both_reach : (s : Size) (pieces set : List (Piece × ℕ)) (terminals : List Vertex) (last : ℕ) (number : ℕ → ℕ → ℕ)
    (n mask v u k : ℕ) → IsHoldingTable s pieces terminals last number → IsKnownFor s pieces terminals last number n
    → IsVertex s v → mask ≤ last →
    length set ≤ suc n → ((x : Piece × ℕ) → Contains set x → Contains pieces x) → (out : IsTakenOut s terminals set mask v u k)
    → out.forest.mark u ≢ out.forest.mark v → 0 < out.parts.one → 0 < out.parts.other
    → number out.parts.other v ≤ number out.parts.other u + k →
    number mask v ≤ weight set
both_reach s pieces set terminals last number n mask v u k holds known vertex within few allowed out apart some others step =
    let f = out.forest in
    let one = out.parts.one in
    let other = out.parts.other in
    let IsNearPiece : Piece × ℕ → Bool = λ x. f.mark (start_of x.0) == f.mark v in
    let IsFarPiece : Piece × ℕ → Bool = λ x. not (f.mark (start_of x.0) == f.mark v) in
    let near = filter IsNearPiece out.rest in
    let far = filter IsFarPiece out.rest in
    let sum = shared_sum one other mask out.parts.shared in
    let lengths = length-filter_both IsNearPiece IsFarPiece (λ x. refl) out.rest in
    let weights = sum_by-filter_both IsNearPiece IsFarPiece (λ x. refl) (λ x. x.1) out.rest in
    let first = known near one v (omega (arith, out.shorter, lengths))
    (λ x at. allowed x (out.kept x (left_by_filter IsNearPiece out.rest x at).0)) some (omega (arith, sum))
    (λ i t at has. walk_within s out.rest f IsNearPiece v (λ x same. alike (f.mark (start_of x.0)) (f.mark v) same) t.0
    (out.near i t at has)) in
    let second = known far other u (omega (arith, out.shorter, lengths))
    (λ x at. allowed x (out.kept x (left_by_filter IsFarPiece out.rest x at).0)) others (omega (arith, sum))
    (λ i t at has. walk_within s out.rest f IsFarPiece u
    (λ x same. unlike (f.mark (start_of x.0)) (f.mark u) (f.mark v) same apart) t.0 (out.far i t at has)) in
    let split = holds.splits one other mask v (record { some = some; others = others; shared = out.parts.shared }) within
    vertex in
    omega (arith, split, first, second, weights, step, out.weighs)
  where
    alike : (a b : ℕ) → a ≡ b → (a == b) ≡ true
    alike a b same = grind (arith, nat_tests)

    unlike : (a c b : ℕ) → a ≡ c → c ≢ b → not (a == b) ≡ true
    unlike a c b same other = let differ : a ≢ b = λ is. other (sym same ∙ is) in grind (arith, nat_tests)

-- by one piece more
law_step : (s : Size) (pieces set : List (Piece × ℕ)) (terminals : List Vertex) (last : ℕ) (number : ℕ → ℕ → ℕ) (n mask v u : ℕ)
    → IsHoldingTable s pieces terminals last number → last ≤ all_of terminals → IsKnownFor s pieces terminals last number n →
    length set ≤ suc n → ((x : Piece × ℕ) → Contains set x → Contains pieces x) → 0 < mask → mask ≤ last
    → ReachesMask s terminals set mask v → AreLinked s (IsAllowed set) v u → number mask v ≤ weight set
law_step s pieces set terminals last number n mask v u holds bits known few allowed some within reaches link =
    let p = link.piece in
    let k = link.in_set.0 in
    let weighs : Weighs pieces p k = allowed (p, k) link.in_set.1 in
    let small = lt_of_le_ones (length terminals) (omega (arith, bits, within)) in
    let vertex = linked_vertex s (IsAllowed set) v u link in
    let out = taken_out s terminals set mask v u k p small vertex link.in_set.1 link.connects reaches in
    let one = out.parts.one in
    let other = out.parts.other in
    let sum = shared_sum one other mask out.parts.shared in
    let fewer : length out.rest ≤ n = omega (arith, out.shorter, few) in
    let still : (x : Piece × ℕ) → Contains out.rest x → Contains pieces x = λ x at. allowed x (out.kept x at) in
    let back = connects_back s p v u link.connects in
    ⊎_elim
    (λ (none : other ≡ 0).
    let whole : one ≡ mask = omega (arith, sum, none) in
    omega (
      arith,
      out.weighs,
      known out.rest mask v fewer still some within
          (subst (λ m. ReachesMask s terminals out.rest m v) whole out.near),
    ))
    (λ others. ⊎_elim
    (λ (none : one ≡ 0).
    let whole : other ≡ mask = omega (arith, sum, none) in
    omega (
      arith,
      out.weighs,
      holds.steps mask some within p k u v weighs back,
      known out.rest mask u fewer still some within (subst (λ m. ReachesMask s terminals out.rest m u) whole out.far),
    ))
    (λ ones.
    let at_other : 0 < other = omega arith in
    both_reach s pieces set terminals last number n mask v u k holds known vertex within few allowed out
    (ends_apart s terminals set mask v u k small out at_other) (omega arith) at_other
    (holds.steps other at_other (omega (arith, sum)) p k u v weighs back))
    (cases_eq one 0))
    (cases_eq other 0)

law_within : (s : Size) (pieces : List (Piece × ℕ)) (terminals : List Vertex) (last : ℕ) (number : ℕ → ℕ → ℕ)
    → IsHoldingTable s pieces terminals last number → last ≤ all_of terminals → (n : ℕ)
    → IsKnownFor s pieces terminals last number n
law_within s pieces terminals last number holds bits zero set mask v few allowed some within reaches = ⊎_elim
    (λ none. omega (arith, none))
    (λ goes. let at = goes.1.in_set.1 in absurd (omega (arith, at.1, few)))
    (some_piece s pieces set terminals last number v holds bits mask mask (omega arith) some within reaches)
law_within s pieces terminals last number holds bits (suc n) set mask v few allowed some within reaches = ⊎_elim
    (λ none. omega (arith, none))
    (λ goes. law_step s pieces set terminals last number n mask v goes.0 holds bits
    (law_within s pieces terminals last number holds bits n) few allowed some within reaches goes.1)
    (some_piece s pieces set terminals last number v holds bits mask mask (omega arith) some within reaches)

-- what joins a vertex and the terminals of a mask reaches each of them
reaches_mask : (s : Size) (terminals : List Vertex) (set : List (Piece × ℕ)) (mask v : ℕ)
    → Joins s (IsAllowed set) (WithVertex terminals mask v) → ReachesMask s terminals set mask v
reaches_mask s terminals set mask v joins i t at has =
    joins v t.0 (inl refl) (inr (record { place = i; terminal = at; has = has }))

-- no number of a table that holds is above the weight of a set that joins its vertex and its mask's terminals
pub holds_for_sets : (s : Size) (pieces : List (Piece × ℕ)) (terminals : List Vertex) (last : ℕ) (number : ℕ → ℕ → ℕ)
    → IsHoldingTable s pieces terminals last number → last ≤ all_of terminals →
    (set : List (Piece × ℕ)) → IsSetOf pieces set → (mask v : ℕ) → 0 < mask → mask ≤ last
    → Joins s (IsAllowed set) (WithVertex terminals mask v) → number mask v ≤ weight set
holds_for_sets s pieces terminals last number holds bits set is mask v some within joins =
    law_within s pieces terminals last number holds bits (length set) set mask v (omega arith) is.allowed some within
    (reaches_mask s terminals set mask v joins)
