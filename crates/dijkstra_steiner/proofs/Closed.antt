-- A search that has taken out all below a number: what it knows of each mask is a table that holds.
use Rattle.std.proofs.Common.{ℕ, ◌≡◌, ◌+◌, ◌-◌, ◌<◌, ◌≤◌, ◌⊎◌, List, length, min, max, refl, inl, inr, ⊎_elim, arith}
use Rattle.std.proofs.lemmas.Bool.{cases_lt}
use Rattle.grid_base.specs.declared.piece.Piece.{Piece}
use Rattle.grid_base.specs.declared.size.Size.{Size}
use Rattle.grid_base.specs.declared.vertex.Vertex.{Vertex}
use Rattle.grid_base.specs.Lists.{At}
use Rattle.grid_base.specs.Numbers.{IsVertex}
use Rattle.grid_base.specs.Walks.{Joins, InVertices}
use Rattle.grid_base.proofs.Pieces.{connects_back, end_vertex}
use Rattle.grid_base.proofs.Walks.{walk_vertices}
use Rattle.grid_graph.specs.Weighed.{IsAllowed, NoPieceTwice, AreWithinLimit}
use Rattle.label_search.specs.Sets.{IsSetOf, IsLeastWeight, weight}
use Rattle.label_search.specs.Stamped.{far}
use Rattle.label_search.proofs.Forests.{light_part}
use Rattle.steiner_tables.specs.Masks.{all_of, all_but_root}
use Rattle.steiner_tables.specs.Tables.{IsHoldingTable, rest_of}
use Rattle.steiner_tables.proofs.Masks.{parts_rest, parts_sum, parts_turned}
use Rattle.steiner_tables.proofs.Roots.{root_mask, root_none, terminal_of_root, joins_terminals}
use Rattle.steiner_tables.proofs.Tables.{holds_for_sets}
use Rattle.dijkstra_steiner.specs.Closed.{IsClosed, known_of}

-- a bound is one for the sets that were found
low_below : (s : Size) (pieces : List (Piece × ℕ)) (terminals : List Vertex) (last : ℕ) (low : ℕ → ℕ → ℕ) (least : ℕ)
    (num : ℕ → ℕ → ℕ) → IsClosed s pieces terminals last low least num → (mask v : ℕ) → 0 < mask → mask ≤ last → IsVertex s v
    → num mask v < far → low mask v ≤ num mask v
low_below s pieces terminals last low least num is mask v some within vertex found =
    let tree = is.trees mask v some within vertex found in
    omega (
      arith,
      tree.light,
      holds_for_sets s pieces terminals (all_of terminals - 1) low is.family
          (omega arith) tree.set tree.is_set mask v some (omega (arith, within, is.below)) tree.joins,
    )

-- a number that was relaxed and merged is known
record IsDone (n low rest least t : ℕ) : Type 0 where
  below : n + rest < least
  is : t ≡ n
  above : low ≤ t

-- of another one is known what is left of it
record IsOpen (low rest least t : ℕ) : Type 0 where
  above : low ≤ t
  over : least ≤ t + rest

-- what is known of a number
record IsKnown (n low rest least t : ℕ) : Type 0 where
  within : t ≤ n
  limit : t ≤ far
  smallest : (x : ℕ) → low ≤ x → least ≤ x + rest → t ≤ x
  cases : IsDone n low rest least t ⊎ ((far ≤ t) ⊎ IsOpen low rest least t)

known : (n low rest least t : ℕ) → t ≡ min n (max low (least - rest)) → least ≤ far → n ≤ far → (n < far → low ≤ n)
    → IsKnown n low rest least t
known n low rest least t is small limit bound = record {
  within = omega (arith, is);
  limit = omega (arith, is, limit);
  smallest = λ x low_x over_x. omega (arith, is, low_x, over_x);
  cases = ⊎_elim
      (λ below. let above = bound (omega (arith, below, small)) in
      inl (record { below = below; is = omega (arith, is, below); above = omega (arith, is, above, below) }))
      (λ over. inr (⊎_elim
      (λ found. let above = bound found in
      inr (record { above = omega (arith, is, above); over = omega (arith, is, over) }))
      (λ none. ⊎_elim
      (λ more. inr (record { above = omega (arith, is, more, none); over = omega (arith, is, more, none) }))
      (λ most. inl most)
      (cases_lt t far))
      (cases_lt n far)))
      (cases_lt (n + rest) least);
}

-- a neighbour's number b, by a piece of weight k
step_known : (a b low_a low_b rest_a rest_b least k x y : ℕ) → low_b ≤ low_a + k → rest_a ≤ rest_b + k
    → IsKnown a low_a rest_a least x → IsKnown b low_b rest_b least y → (a + rest_a < least → b ≤ a + k) → y ≤ x + k
step_known a b low_a low_b rest_a rest_b least k x y low rest first second relaxed = ⊎_elim
    (λ done. omega (arith, done.is, relaxed done.below, second.within))
    (λ open_a. ⊎_elim
    (λ most. omega (arith, most, second.limit))
    (λ left. second.smallest (x + k) (omega (arith, left.above, low)) (omega (arith, left.over, rest)))
    open_a)
    first.cases

-- a part is known to be at least its bound
known_above : (n low rest least t : ℕ) → IsKnown n low rest least t → (far ≤ t) ⊎ (low ≤ t)
known_above n low rest least t is = ⊎_elim
    (λ done. inr done.above)
    (λ left. ⊎_elim (λ most. inl most) (λ over. inr over.above) left)
    is.cases

-- the number m of a mask, a part of which isn't done
split_open : (b m low_a low_b low_m rest_a rest_b rest_m least x y z : ℕ) → low_m ≤ low_a + low_b → rest_a ≤ rest_m + low_b
    → (far ≤ x) ⊎ IsOpen low_a rest_a least x → IsKnown b low_b rest_b least y → IsKnown m low_m rest_m least z → z ≤ x + y
split_open b m low_a low_b low_m rest_a rest_b rest_m least x y z low rest first second whole = ⊎_elim
    (λ most. omega (arith, most, whole.limit))
    (λ left. ⊎_elim
    (λ most. omega (arith, most, whole.limit))
    (λ above. whole.smallest (x + y) (omega (arith, left.above, above, low)) (omega (arith, left.over, above, rest)))
    (known_above b low_b rest_b least y second))
    first

-- the number m of a mask, of which a and b are parts
split_known : (a b m low_a low_b low_m rest_a rest_b rest_m least x y z : ℕ) → low_m ≤ low_a + low_b → rest_a ≤ rest_m + low_b
    → rest_b ≤ rest_m + low_a → IsKnown a low_a rest_a least x → IsKnown b low_b rest_b least y
    → IsKnown m low_m rest_m least z → (a + rest_a < least → b + rest_b < least → m ≤ a + b) → z ≤ x + y
split_known a b m low_a low_b low_m rest_a rest_b rest_m least x y z low rest back first second whole merged = ⊎_elim
    (λ done. ⊎_elim
    (λ beside. omega (arith, done.is, beside.is, merged done.below beside.below, whole.within))
    (λ left.
    let turned = split_open a m low_b low_a low_m rest_b rest_a rest_m least y x z (omega (arith, low)) back left first whole in
    omega (arith, turned))
    second.cases)
    (λ left. split_open b m low_a low_b low_m rest_a rest_b rest_m least x y z low rest left second whole)
    first.cases

-- what is known of the number of a mask at a vertex
known_at : (s : Size) (pieces : List (Piece × ℕ)) (terminals : List Vertex) (last : ℕ) (low : ℕ → ℕ → ℕ) (least : ℕ)
    (num : ℕ → ℕ → ℕ) → IsClosed s pieces terminals last low least num → (mask v : ℕ) → 0 < mask → mask ≤ last → IsVertex s v
    → IsKnown (num mask v) (low mask v) (rest_of terminals low mask v) least (known_of terminals low least num mask v)
known_at s pieces terminals last low least num is mask v some within vertex =
    known (num mask v) (low mask v) (rest_of terminals low mask v) least (known_of terminals low least num mask v) (omega arith)
    is.small (is.above mask v) (low_below s pieces terminals last low least num is mask v some within vertex)

-- what is known is a table that holds
pub closed_holds : (s : Size) (pieces : List (Piece × ℕ)) (terminals : List Vertex) (last : ℕ) (low : ℕ → ℕ → ℕ) (least : ℕ)
    (num : ℕ → ℕ → ℕ) → IsClosed s pieces terminals last low least num
    → IsHoldingTable s pieces terminals last (known_of terminals low least num)
closed_holds s pieces terminals last low least num is =
    let all = all_of terminals in
    let t = known_of terminals low least num in
    let rest = rest_of terminals low in
    let at = known_at s pieces terminals last low least num is in
    record {
      own = λ place v stands within. let zero = is.own place v stands within in omega (arith, zero);
      steps = λ mask some within p k a b weighs connects.
          let back = connects_back s p a b connects in
          let near = end_vertex s p b a back in
          step_known (num mask a) (num mask b) (low mask a) (low mask b) (rest mask a) (rest mask b) least k (t mask a) (t mask b)
          (is.family.steps mask some (omega (arith, within, is.below)) p k a b weighs connects)
          (is.family.steps (all - mask) (omega (arith, within, is.below)) (omega (arith, some)) p k b a weighs back)
          (at mask a some within near) (at mask b some within (end_vertex s p a b connects))
          (λ below. is.relaxed mask p k a b some within near below weighs connects);
      splits = λ one other mask v parts within vertex.
          let sum = parts_sum one other mask parts in
          let small : mask < all = omega (arith, within, is.below) in
          split_known (num one v) (num other v) (num mask v) (low one v) (low other v) (low mask v) (rest one v) (rest other v)
          (rest mask v) least (t one v) (t other v) (t mask v)
          (is.family.splits one other mask v parts (omega (arith, small)) vertex)
          (is.family.splits (all - mask) other (all - one) v (parts_rest (length terminals) one other mask parts small)
          (omega (arith, parts.some)) vertex)
          (is.family.splits (all - mask) one (all - other) v
          (parts_rest (length terminals) other one mask (parts_turned one other mask parts) small)
          (omega (arith, parts.others)) vertex)
          (at one v parts.some (omega (arith, sum, within)) vertex) (at other v parts.others (omega (arith, sum, within)) vertex)
          (at mask v (omega (arith, sum, parts.some)) within vertex)
          (λ first second. is.merged one other mask v parts within vertex first second);
    }

-- where the root has no less, no set that joins the terminals weighs less
pub closed_bound : (s : Size) (pieces : List (Piece × ℕ)) (terminals : List Vertex) (low : ℕ → ℕ → ℕ) (least : ℕ)
    (num : ℕ → ℕ → ℕ) (root : Vertex) → IsClosed s pieces terminals (all_but_root terminals) low least num
    → 2 ≤ length terminals → At terminals (length terminals - 1) root → least ≤ num (all_but_root terminals) root.0
    → (set : List (Piece × ℕ)) → IsSetOf pieces set → Joins s (IsAllowed set) (InVertices terminals) → least ≤ weight set
closed_bound s pieces terminals low least num root is two at none set is_set joins =
    let mask = root_mask terminals two in
    ⊎_elim
    (λ (some : 0 < least). let over = root_none s pieces terminals low (least - 1) root is.family two at
    (λ other other_is joined. omega (
      arith,
      some,
      none,
      holds_for_sets s pieces terminals (all_but_root terminals) (known_of terminals low least num)
          (closed_holds s pieces terminals (all_but_root terminals) low least num is)
          (omega (arith, mask.1)) other other_is (all_but_root terminals) root.0 mask.0 (omega arith) joined,
    ))
    set is_set joins in omega (arith, over, some))
    (λ zero. omega (arith, zero))
    (cases_lt 0 least)

-- the number of the root is the least weight of a set that joins the terminals
pub closed_least : (s : Size) (pieces : List (Piece × ℕ)) (terminals : List Vertex) (low : ℕ → ℕ → ℕ) (least : ℕ)
    (num : ℕ → ℕ → ℕ) (root : Vertex) → IsClosed s pieces terminals (all_but_root terminals) low least num
    → 2 ≤ length terminals → At terminals (length terminals - 1) root → IsVertex s root.0
    → num (all_but_root terminals) root.0 ≡ least → least < far → IsLeastWeight s pieces (InVertices terminals) least
closed_least s pieces terminals low least num root is two at vertex same found =
    let mask = root_mask terminals two in
    let tree = is.trees (all_but_root terminals) root.0 mask.0 (omega arith) vertex (omega (arith, same, found)) in
    let joins = joins_terminals s (IsAllowed tree.set) terminals root at tree.joins in
    let bound = closed_bound s pieces terminals low least num root is two at (omega (arith, same)) in
    record {
      set = tree.set;
      is_set = tree.is_set;
      joins = joins;
      weighs = omega (arith, tree.light, same, bound tree.set tree.is_set joins);
      lightest = bound;
    }

-- where all was taken out and the root has no number no set joins the terminals
pub closed_apart : (s : Size) (pieces : List (Piece × ℕ)) (terminals : List Vertex) (low num : ℕ → ℕ → ℕ) (root : Vertex)
    → IsClosed s pieces terminals (all_but_root terminals) low far num → 2 ≤ length terminals
    → At terminals (length terminals - 1) root → far ≤ num (all_but_root terminals) root.0 → NoPieceTwice pieces
    → AreWithinLimit pieces → ¬ Joins s (IsAllowed pieces) (InVertices terminals)
closed_apart s pieces terminals low num root is two at none once small joins =
    let in_root : InVertices terminals root.0 = terminal_of_root terminals root root.0 at (inl refl) in
    let vertex = (walk_vertices s (IsAllowed pieces) root.0 root.0 (joins root.0 root.0 in_root in_root)).0 in
    let light = light_part s pieces pieces root.0 small (record { allowed = λ x found. found; once = once }) vertex in
    omega (
      arith,
      light.light,
      closed_bound s pieces terminals low far num root is two at none light.part light.is_set
          (λ a b at_a at_b. light.joins a b (joins a b at_a at_b)),
    )
