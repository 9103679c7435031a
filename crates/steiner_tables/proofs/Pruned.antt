-- A table that was pruned, completed by its bounds, holds: so what was kept is least, and what wasn't is above the limit.
use Rattle.std.proofs.Common.{◌≡◌, ℕ, ◌+◌, ◌-◌, ◌^◌, ◌<◌, ◌≤◌, ◌⊎◌, true, false, List, Some, None, length, ltb, max, refl, sym}
use Rattle.std.proofs.Common.{◌∙◌, ap, subst, inl, inr, ⊎_elim, arith}
use Rattle.std.proofs.lemmas.Bool.{cases_lt}
use Rattle.std.proofs.lemmas.Bool.Decides.{nat_tests}
use Rattle.std.proofs.lemmas.Nat.{pow_pos}
use Rattle.grid_base.specs.declared.piece.Piece.{Piece}
use Rattle.grid_base.specs.declared.size.Size.{Size}
use Rattle.grid_base.specs.declared.vertex.Vertex.{Vertex}
use Rattle.grid_base.specs.Walks.{Joins}
use Rattle.grid_base.proofs.Walks.{walk_vertices}
use Rattle.grid_base.proofs.Pieces.{connects_back}
use Rattle.grid_graph.specs.Weighed.{IsAllowed, AreWithinLimit}
use Rattle.steiner_tables.specs.Masks.{single, all_of, WithVertex}
use Rattle.label_search.specs.Searches.{IsBehind}
use Rattle.label_search.specs.Sets.{IsSetOf, IsLeastWeight, weight}
use Rattle.steiner_tables.specs.Tables.{IsHoldingTable, IsFamily, IsSplit, IsAlone, IsPrunedTable, IsPrunedLabel, IsLabel}
use Rattle.steiner_tables.specs.Tables.{IsReachedExactly, IsFromNeighbour, IsFromParts, rest_of, answer_at, completed}
use Rattle.label_search.proofs.Forests.{light_part}
use Rattle.steiner_tables.proofs.Masks.{parts_rest, parts_sum, parts_turned}
use Rattle.steiner_tables.proofs.Tables.{holds_for_sets}

-- a table that was pruned under a family
pub record IsPrunedBy (s : Size) (pieces : List (Piece × ℕ)) (terminals : List Vertex) (last : ℕ) (low : ℕ → ℕ → ℕ)
    (limit far : ℕ) (number : ℕ → ℕ → ℕ) : Type 0 where
  pub family : IsFamily s pieces terminals low
  pub below : last < all_of terminals
  pub limit_below : limit < far
  pub pruned : IsPrunedTable s pieces terminals last low limit far number

-- a bound is one for the sets that were found
kept_above : (s : Size) (pieces : List (Piece × ℕ)) (terminals : List Vertex) (last : ℕ) (low : ℕ → ℕ → ℕ) (limit far : ℕ)
    (number : ℕ → ℕ → ℕ) → IsPrunedBy s pieces terminals last low limit far number →
    (mask v : ℕ) → 0 < mask → mask ≤ last → number mask v < far → low mask v ≤ number mask v
kept_above s pieces terminals last low limit far number is mask v some within kept =
    let tree = is.pruned.trees mask v some within kept in
    omega (
      arith,
      tree.light,
      holds_for_sets s pieces terminals (all_of terminals - 1) low is.family
          (omega arith) tree.set tree.is_set mask v some (omega (arith, is.below)) tree.joins,
    )

-- what a completed number is: of a number that was kept, or of one that wasn't
record IsKept (n far low rest limit c : ℕ) : Type 0 where
  kept : n < far
  is : c ≡ n
  above : low ≤ n
  within : n + rest ≤ limit

record IsNotKept (n far low rest limit c : ℕ) : Type 0 where
  none : n ≡ far
  above : low ≤ c
  over : limit + 1 ≤ c + rest
  least : (x : ℕ) → low ≤ x → limit + 1 ≤ x + rest → c ≤ x

completed-kept : (terminals : List Vertex) (low : ℕ → ℕ → ℕ) (limit far : ℕ) (number : ℕ → ℕ → ℕ) (mask v : ℕ)
    → number mask v < far → completed terminals low limit far number mask v ≡ number mask v
completed-kept terminals low limit far number mask v kept = let test : ltb (number mask v) far ≡ true =
    grind (arith, nat_tests) in rw test refl

completed-none : (terminals : List Vertex) (low : ℕ → ℕ → ℕ) (limit far : ℕ) (number : ℕ → ℕ → ℕ) (mask v : ℕ)
    → far ≤ number mask v → completed terminals low limit far number mask v
    ≡ max (low mask v) (limit + 1 - rest_of terminals low mask v)
completed-none terminals low limit far number mask v none = let test : ltb (number mask v) far ≡ false =
    grind (arith, nat_tests) in rw test refl

completed_cases : (s : Size) (pieces : List (Piece × ℕ)) (terminals : List Vertex) (last : ℕ) (low : ℕ → ℕ → ℕ) (limit far : ℕ)
    (number : ℕ → ℕ → ℕ) → IsPrunedBy s pieces terminals last low limit far number → (mask v : ℕ) → 0 < mask → mask ≤ last →
    IsKept (number mask v) far (low mask v) (rest_of terminals low mask v) limit
    (completed terminals low limit far number mask v)
    ⊎ IsNotKept (number mask v) far (low mask v) (rest_of terminals low mask v) limit
    (completed terminals low limit far number mask v)
completed_cases s pieces terminals last low limit far number is mask v some within = ⊎_elim
    (λ kept. inl (record {
      kept = kept;
      is = completed-kept terminals low limit far number mask v kept;
      above = kept_above s pieces terminals last low limit far number is mask v some within kept;
      within = is.pruned.within mask v some within kept;
    }))
    (λ none.
    let value = completed-none terminals low limit far number mask v none in
    inr (record {
      none = omega (arith, none, is.pruned.above mask v);
      above = omega (arith, value);
      over = omega (arith, value);
      least = λ x low_x over_x. omega (arith, value, low_x, over_x);
    }))
    (cases_lt (number mask v) far)

-- a terminal alone
own_number : (n far rest limit c : ℕ) → limit < far → IsKept n far 0 rest limit c ⊎ IsNotKept n far 0 rest limit c
    → (n ≡ 0) ⊎ (limit < rest) → c ≡ 0
own_number n far rest limit c small cases own = ⊎_elim
    (λ kept. ⊎_elim (λ zero. omega (arith, kept.is, zero)) (λ over. absurd (omega (arith, kept.within, over))) own)
    (λ none. ⊎_elim
    (λ zero. absurd (omega (arith, none.none, zero, small)))
    (λ over. let nothing = none.least 0 (omega arith) (omega (arith, over)) in omega (arith, nothing))
    own)
    cases

-- a neighbour's number b, by a piece of weight k
step_number : (a b far low_a low_b rest_a rest_b limit k x y : ℕ) → limit < far → low_b ≤ low_a + k → rest_a ≤ rest_b + k
    → IsKept a far low_a rest_a limit x ⊎ IsNotKept a far low_a rest_a limit x
    → IsKept b far low_b rest_b limit y ⊎ IsNotKept b far low_b rest_b limit y →
    (a < far → (b ≤ a + k) ⊎ (limit < a + k + rest_b)) → y ≤ x + k
step_number a b far low_a low_b rest_a rest_b limit k x y small low rest first second offered = ⊎_elim
    (λ a_kept. ⊎_elim
    (λ b_kept. ⊎_elim (λ taken. omega (arith, a_kept.is, b_kept.is, taken))
    (λ refused. omega (arith, a_kept.is, b_kept.is, b_kept.within, refused)) (offered a_kept.kept))
    (λ b_none. b_none.least (x + k) (omega (arith, a_kept.is, a_kept.above, low))
    (⊎_elim (λ taken. omega (arith, a_kept.is, b_none.none, taken, small)) (λ refused. omega (arith, a_kept.is, refused))
    (offered a_kept.kept)))
    second)
    (λ a_none. ⊎_elim
    (λ b_kept. omega (arith, a_none.over, b_kept.is, b_kept.within, rest))
    (λ b_none. b_none.least (x + k) (omega (arith, a_none.above, low)) (omega (arith, a_none.over, rest)))
    second)
    first

-- the number m of a mask, of which a and b are parts
split_number : (a b m far low_a low_b low_m rest_a rest_b rest_m limit x y z : ℕ) → limit < far → low_m ≤ low_a + low_b
    → rest_a ≤ rest_m + low_b → rest_b ≤ rest_m + low_a →
    IsKept a far low_a rest_a limit x ⊎ IsNotKept a far low_a rest_a limit x
    → IsKept b far low_b rest_b limit y ⊎ IsNotKept b far low_b rest_b limit y
    → IsKept m far low_m rest_m limit z ⊎ IsNotKept m far low_m rest_m limit z →
    (a < far → b < far → (m ≤ a + b) ⊎ (limit < a + b + rest_m)) → z ≤ x + y
split_number a b m far low_a low_b low_m rest_a rest_b rest_m limit x y z small low rest_first rest_second first second third
    offered =
    let above_x : low_a ≤ x = ⊎_elim (λ kept. omega (arith, kept.is, kept.above)) (λ none. none.above) first in
    let above_y : low_b ≤ y = ⊎_elim (λ kept. omega (arith, kept.is, kept.above)) (λ none. none.above) second in
    let done : (limit + 1 ≤ x + y + rest_m) → z ≤ x + y = λ over. ⊎_elim
    (λ kept. omega (arith, kept.is, kept.within, over))
    (λ none. none.least (x + y) (omega (arith, above_x, above_y, low)) over)
    third in
    ⊎_elim
    (λ a_kept. ⊎_elim
    (λ b_kept. ⊎_elim
    (λ taken. ⊎_elim
    (λ kept. omega (arith, kept.is, a_kept.is, b_kept.is, taken))
    (λ none. done (omega (arith, none.none, a_kept.is, b_kept.is, taken, small)))
    third)
    (λ refused. done (omega (arith, a_kept.is, b_kept.is, refused)))
    (offered a_kept.kept b_kept.kept))
    (λ b_none. done (omega (arith, b_none.over, above_x, rest_second)))
    second)
    (λ a_none. done (omega (arith, a_none.over, above_y, rest_first)))
    first

-- a completed table holds
pub completed_holds : (s : Size) (pieces : List (Piece × ℕ)) (terminals : List Vertex) (last : ℕ) (low : ℕ → ℕ → ℕ)
    (limit far : ℕ) (number : ℕ → ℕ → ℕ) → IsPrunedBy s pieces terminals last low limit far number →
    IsHoldingTable s pieces terminals last (completed terminals low limit far number)
completed_holds s pieces terminals last low limit far number is =
    let all = all_of terminals in
    let c = completed terminals low limit far number in
    let rest = rest_of terminals low in
    let cases = completed_cases s pieces terminals last low limit far number is in
    record {
      own = λ place v at within.
          let some : 0 < single place = pow_pos place in
          let zero : low (single place) v.0 ≡ 0 = is.family.own place v at (omega (arith, within, is.below)) in
          own_number (number (single place) v.0) far (rest (single place) v.0) limit (c (single place) v.0) is.limit_below
          (subst (λ n. IsKept (number (single place) v.0) far n (rest (single place) v.0) limit (c (single place) v.0)
          ⊎ IsNotKept (number (single place) v.0) far n (rest (single place) v.0) limit (c (single place) v.0)) zero
          (cases (single place) v.0 some within))
          (is.pruned.own place v at within);
      steps = λ mask some within p k a b weighs connects.
          step_number (number mask a) (number mask b) far (low mask a) (low mask b) (rest mask a) (rest mask b) limit k
          (c mask a) (c mask b) is.limit_below
          (is.family.steps mask some (omega (arith, within, is.below)) p k a b weighs connects)
          (is.family.steps (all - mask) (omega (arith, within, is.below)) (omega (arith, some)) p k b a weighs
          (connects_back s p a b connects))
          (cases mask a some within) (cases mask b some within)
          (λ kept. is.pruned.steps mask p k a b some within weighs connects kept);
      splits = λ one other mask v parts within vertex.
          let sum = parts_sum one other mask parts in
          let small : mask < all = omega (arith, within, is.below) in
          split_number (number one v) (number other v) (number mask v) far (low one v) (low other v) (low mask v) (rest one v)
          (rest other v) (rest mask v) limit (c one v) (c other v) (c mask v) is.limit_below
          (is.family.splits one other mask v parts (omega (arith, small)) vertex)
          (is.family.splits (all - mask) other (all - one) v (parts_rest (length terminals) one other mask parts small)
          (omega (arith, parts.some)) vertex)
          (is.family.splits (all - mask) one (all - other) v
          (parts_rest (length terminals) other one mask (parts_turned one other mask parts) small)
          (omega (arith, parts.others)) vertex)
          (cases one v parts.some (omega (arith, sum, within))) (cases other v parts.others (omega (arith, sum, within)))
          (cases mask v (omega (arith, sum, parts.some)) within)
          (λ first second. is.pruned.splits one other mask v parts within vertex first second);
    }

pub answer_at-some : (far n : ℕ) → n < far → answer_at far n ≡ Some n
answer_at-some far n kept = let test : ltb n far ≡ true = grind (arith, nat_tests) in rw test refl

pub answer_at-none : (far n : ℕ) → far ≤ n → answer_at far n ≡ None
answer_at-none far n none = let test : ltb n far ≡ false = grind (arith, nat_tests) in rw test refl

-- every joining set weighs at least the completed number
at_most_set : (s : Size) (pieces : List (Piece × ℕ)) (terminals : List Vertex) (last : ℕ) (low : ℕ → ℕ → ℕ) (limit far : ℕ)
    (number : ℕ → ℕ → ℕ) → IsPrunedBy s pieces terminals last low limit far number → (set : List (Piece × ℕ))
    → IsSetOf pieces set →
    (mask v : ℕ) → 0 < mask → mask ≤ last → Joins s (IsAllowed set) (WithVertex terminals mask v)
    → completed terminals low limit far number mask v ≤ weight set
at_most_set s pieces terminals last low limit far number is set is_set mask v some within joins =
    holds_for_sets s pieces terminals last (completed terminals low limit far number)
    (completed_holds s pieces terminals last low limit far number is)
    (omega (arith, is.below)) set is_set mask v some within joins

-- a kept number is a least weight
kept_least : (s : Size) (pieces : List (Piece × ℕ)) (terminals : List Vertex) (last : ℕ) (low : ℕ → ℕ → ℕ) (limit far : ℕ)
    (number : ℕ → ℕ → ℕ) → IsPrunedBy s pieces terminals last low limit far number → (mask v : ℕ) → 0 < mask → mask ≤ last →
    number mask v < far → IsLeastWeight s pieces (WithVertex terminals mask v) (number mask v)
kept_least s pieces terminals last low limit far number is mask v some within kept =
    let tree = is.pruned.trees mask v some within kept in
    let same = completed-kept terminals low limit far number mask v kept in
    let least : (set : List (Piece × ℕ)) → IsSetOf pieces set → Joins s (IsAllowed set) (WithVertex terminals mask v)
    → number mask v ≤ weight set =
    λ set is_set joins. omega (
      arith,
      same,
      at_most_set s pieces terminals last low limit far number is set is_set mask v some
          within joins,
    ) in
    record {
      set = tree.set;
      is_set = tree.is_set;
      joins = tree.joins;
      weighs = omega (arith, tree.light, least tree.set tree.is_set tree.joins);
      lightest = least;
    }

-- where none was kept every joining set is above the limit
none_above : (s : Size) (pieces : List (Piece × ℕ)) (terminals : List Vertex) (last : ℕ) (low : ℕ → ℕ → ℕ) (limit far : ℕ)
    (number : ℕ → ℕ → ℕ) → IsPrunedBy s pieces terminals last low limit far number → (mask v : ℕ) → 0 < mask → mask ≤ last →
    far ≤ number mask v → (set : List (Piece × ℕ)) → IsSetOf pieces set → Joins s (IsAllowed set) (WithVertex terminals mask v)
    → limit < weight set + rest_of terminals low mask v
none_above s pieces terminals last low limit far number is mask v some within none set is_set joins =
    let value = completed-none terminals low limit far number mask v none in
    omega (arith, value, at_most_set s pieces terminals last low limit far number is set is_set mask v some within joins)

-- what a pruned table answers
pub pruned_label : (s : Size) (pieces : List (Piece × ℕ)) (terminals : List Vertex) (last : ℕ) (low : ℕ → ℕ → ℕ) (limit far : ℕ)
    (number : ℕ → ℕ → ℕ) → IsPrunedBy s pieces terminals last low limit far number → (mask v : ℕ) → 0 < mask → mask ≤ last →
    IsPrunedLabel s pieces terminals low limit mask v (answer_at far (number mask v))
pruned_label s pieces terminals last low limit far number is mask v some within = ⊎_elim
    (λ kept. subst (IsPrunedLabel s pieces terminals low limit mask v) (sym (answer_at-some far (number mask v) kept)) (
      kept_least s pieces terminals last low limit far number is mask v some within kept,
      is.pruned.within mask v some within kept,
    ))
    (λ none. subst (IsPrunedLabel s pieces terminals low limit mask v) (sym (answer_at-none far (number mask v) none))
    (none_above s pieces terminals last low limit far number is mask v some within none))
    (cases_lt (number mask v) far)

-- where the limit is above all least weights, and nothing is known of what is left to go
pub exact_label : (s : Size) (pieces : List (Piece × ℕ)) (terminals : List Vertex) (last : ℕ) (low : ℕ → ℕ → ℕ) (limit far : ℕ)
    (number : ℕ → ℕ → ℕ) → IsPrunedBy s pieces terminals last low limit far number → AreWithinLimit pieces → 2 ^ 61 - 1 ≤ limit
    → ((mask v : ℕ) → low mask v ≡ 0) →
    (mask v : ℕ) → 0 < mask → mask ≤ last → IsLabel s pieces terminals mask v (answer_at far (number mask v))
exact_label s pieces terminals last low limit far number is small enough nothing mask v some within = ⊎_elim
    (λ kept. subst (IsLabel s pieces terminals mask v) (sym (answer_at-some far (number mask v) kept))
    (kept_least s pieces terminals last low limit far number is mask v some within kept))
    (λ none. subst (IsLabel s pieces terminals mask v) (sym (answer_at-none far (number mask v) none))
    (λ set is_set joins.
    let vertex = (walk_vertices s (IsAllowed set) v v (joins v v (inl refl) (inl refl))).0 in
    let light = light_part s pieces set v small is_set vertex in
    omega (
      arith,
      enough,
      light.light,
      nothing (all_of terminals - mask) v,
      none_above s pieces terminals last low limit far number is mask v some within none light.part light.is_set
          (λ a b at_a at_b. light.joins a b (joins a b at_a at_b)),
    )))
    (cases_lt (number mask v) far)

from_neighbour : (s : Size) (pieces : List (Piece × ℕ)) (terminals : List Vertex) (last : ℕ) (low : ℕ → ℕ → ℕ) (limit far : ℕ)
    (number : ℕ → ℕ → ℕ) → IsPrunedTable s pieces terminals last low limit far number → (mask v : ℕ) → 0 < mask → mask ≤ last
    → number mask v < far →
    IsBehind s pieces (number mask) v → IsFromNeighbour s pieces (number mask) v
from_neighbour s pieces terminals last low limit far number is mask v some within kept behind = record {
  before = behind.before;
  piece = behind.piece;
  by = behind.by;
  connects = behind.connects;
  weighs = behind.weighs;
  sum = ⊎_elim
      (λ taken. omega (arith, taken, behind.less))
      (λ refused. absurd (omega (arith, refused, behind.less, is.within mask v some within kept)))
      (is.steps mask behind.piece behind.by behind.before v some within behind.weighs behind.connects
      (omega (arith, behind.less, kept)));
}

from_parts : (s : Size) (pieces : List (Piece × ℕ)) (terminals : List Vertex) (last : ℕ) (low : ℕ → ℕ → ℕ) (limit far : ℕ)
    (number : ℕ → ℕ → ℕ) → IsPrunedTable s pieces terminals last low limit far number → (mask v : ℕ) → 0 < mask → mask ≤ last
    → number mask v < far →
    IsSplit number mask v → IsFromParts number mask v
from_parts s pieces terminals last low limit far number is mask v some within kept split =
    let tree = is.trees mask v some within kept in
    let vertex = (walk_vertices s (IsAllowed tree.set) v v (tree.joins v v (inl refl) (inl refl))).0 in
    record {
      one = split.one;
      other = split.other;
      parts = split.parts;
      sum = ⊎_elim
          (λ taken. omega (arith, taken, split.less))
          (λ refused. absurd (omega (arith, refused, split.less, is.within mask v some within kept)))
          (is.splits split.one split.other mask v split.parts within vertex (omega (arith, split.less, kept))
          (omega (arith, split.less, kept)));
    }

alone_zero : (s : Size) (pieces : List (Piece × ℕ)) (terminals : List Vertex) (last : ℕ) (low : ℕ → ℕ → ℕ) (limit far : ℕ)
    (number : ℕ → ℕ → ℕ) → IsPrunedTable s pieces terminals last low limit far number → (mask v : ℕ) → 0 < mask → mask ≤ last
    → number mask v < far →
    IsAlone terminals mask v → number mask v ≡ 0
alone_zero s pieces terminals last low limit far number is mask v some within kept alone =
    let inside = subst (λ m. m ≤ last) alone.2 within in
    let left : number (single alone.0) v + rest_of terminals low (single alone.0) v ≤ limit =
    subst (λ m. number m v + rest_of terminals low m v ≤ limit) alone.2 (is.within mask v some within kept) in
    ⊎_elim
    (λ zero. ap (λ m. number m v) alone.2 ∙ zero)
    (λ over. absurd (omega (arith, over, left)))
    (is.own alone.0 (record { 0 = v }) alone.1 inside)

-- each kept number is reached in one of three ways
pub reached_exactly : (s : Size) (pieces : List (Piece × ℕ)) (terminals : List Vertex) (last : ℕ) (low : ℕ → ℕ → ℕ)
    (limit far : ℕ) (number : ℕ → ℕ → ℕ) → IsPrunedTable s pieces terminals last low limit far number → (mask v : ℕ) → 0 < mask
    → mask ≤ last → number mask v < far →
    IsReachedExactly s pieces terminals number mask v
reached_exactly s pieces terminals last low limit far number is mask v some within kept = ⊎_elim
    (λ alone. inl (alone, alone_zero s pieces terminals last low limit far number is mask v some within kept alone))
    (λ further. inr (⊎_elim
    (λ behind. inl (from_neighbour s pieces terminals last low limit far number is mask v some within kept behind))
    (λ split. inr (from_parts s pieces terminals last low limit far number is mask v some within kept split))
    further))
    (is.reached mask v some within kept)
