-- Moats that don't overlap: the depths in them differ at the ends of a piece by at most its weight together, and along a set
-- that joins the terminals by at least the sum of the radii.
use Rattle.std.proofs.Common.{◌≡◌, ◌≢◌, ℕ, suc, ◌+◌, ◌<◌, ◌≤◌, List, [], ◌∷◌, length, map, get_or, refl, sym, ◌∙◌, ap, inl, inr, ⊎_elim, arith}
use Rattle.std.specs.List.{Contains, sum}
use Rattle.std.proofs.lemmas.Bool.{cases_eq}
use Rattle.std.proofs.lemmas.List.Sums.{sum_by-cons, get_or-le-sum_by}
use Rattle.std.proofs.lemmas.Option.{slice_get-get_or, get_or_from_slice_get}
use Rattle.grid_base.specs.declared.piece.Piece.{Piece}
use Rattle.grid_base.specs.declared.size.Size.{Size}
use Rattle.grid_base.specs.declared.vertex.Vertex.{Vertex}
use Rattle.grid_base.specs.Numbers.{IsVertex, IsPiece, Connects, start_of, end_of}
use Rattle.grid_base.specs.Walks.{WalkBetween, Joins, InVertices}
use Rattle.grid_base.proofs.Walks.{WalkBetween-superset, walk_vertices}
use Rattle.grid_graph.specs.Weighed.{IsAllowed, WeighsOnlyPieces}
use Rattle.label_search.specs.Sets.{IsSetOf, RisesSlowly, weight}
use Rattle.label_search.proofs.Law.{rises_by_weight}
use Rattle.lower_bound.specs.Moats.{AreMoats}
use Rattle.landmarks.proofs.Lowered.{from_map, into_map}
use Rattle.lower_bound.proofs.Reach.{within, within-refl, within-sym, within-triangle, within-piece, within_is_set}
use Rattle.lower_bound.proofs.Shares.{depth, share, share_one, share_two, share_three, total, total-add, total-at_most, total-none, total-sum, two_positive}

-- how a number for each vertex differs at the ends of a piece
difference : Size → (ℕ → ℕ) → Piece → ℕ
difference s D p = share (D (start_of p)) (D (end_of s p))

-- the pieces of a set, weighed by how much it differs at their ends
by_difference : Size → (ℕ → ℕ) → List (Piece × ℕ) → List (Piece × ℕ)
by_difference s D set = map (λ x. (x.0, difference s D x.0)) set

rises_by_difference : (s : Size) (D : ℕ → ℕ) (set : List (Piece × ℕ)) → RisesSlowly s (by_difference s D set) D
unfolding by_difference difference
rises_by_difference s D set p k a b weighs connects =
    let old = from_map (λ x. (x.0, difference s D x.0)) set (p, k) weighs in
    let same : old.from.0 ≡ p = ap (λ (y : Piece × ℕ). y.0) old.is in
    let its : difference s D old.from.0 ≡ k = ap (λ (y : Piece × ℕ). y.1) old.is in
    let number : difference s D p ≡ k = ap (difference s D) (sym same) ∙ its in
    ⊎_elim
    (λ goes. omega (arith, number, ap D goes.1, ap D goes.2))
    (λ goes. omega (arith, number, ap D goes.1, ap D goes.2))
    connects

-- along a set that joins two vertices it differs by at most the sum of what it differs along the pieces
differs_by : (s : Size) (D : ℕ → ℕ) (set : List (Piece × ℕ)) (a b : ℕ) → WalkBetween s (IsAllowed set) a b → D b ≤ D a + weight (by_difference s D set)
unfolding by_difference
differs_by s D set a b walk = rises_by_weight s (by_difference s D set) D (rises_by_difference s D set) (by_difference s D set) (λ x at. at) a b
    (WalkBetween-superset s (IsAllowed set) (IsAllowed (by_difference s D set))
    (λ q at. (difference s D q, into_map (λ x. (x.0, difference s D x.0)) set (q, at.0) at.1))
    a b walk)

-- the two sums exchanged
exchanged : (s : Size) (D : ℕ → ℕ → ℕ) (n : ℕ) (set : List (Piece × ℕ)) → ((x : Piece × ℕ) → Contains set x → total (λ i. difference s (D i) x.0) n ≤ x.1) → total (λ i. weight (by_difference s (D i) set)) n ≤ weight set
unfolding by_difference
exchanged s D n [] each = omega (arith, total-none (λ i. weight (by_difference s (D i) [])) n (λ i low. refl))
exchanged s D n (x ∷ set) each =
    let rest = exchanged s D n set (λ y at. each y (suc at.0, omega (arith, at.1), at.2)) in
    let sum = total-add (λ i. difference s (D i) x.0) (λ i. weight (by_difference s (D i) set)) (λ i. weight (by_difference s (D i) (x ∷ set))) n
    (λ i low. sum_by-cons (λ (y : Piece × ℕ). y.1) (x.0, difference s (D i) x.0) (by_difference s (D i) set)) in
    omega (arith, rest, sum, each x (0, omega arith, refl), sum_by-cons (λ (y : Piece × ℕ). y.1) x set)

nowhere : Vertex
nowhere = record { 0 = 0 }

terminal : List Vertex → ℕ → ℕ
terminal terminals i = (get_or terminals i nowhere).0

radius : List ℕ → ℕ → ℕ
radius radii i = get_or radii i 0

beyond : List ℕ → ℕ
beyond radii = sum radii + sum radii

-- how far a vertex is from the terminal at a place, within a set
away : Size → List Vertex → List ℕ → List (Piece × ℕ) → ℕ → ℕ → ℕ
away s terminals radii set i v = within s (beyond radii) set (terminal terminals i) v

-- how deep in its moat
deep : Size → List Vertex → List ℕ → List (Piece × ℕ) → ℕ → ℕ → ℕ
deep s terminals radii set i v = depth (radius radii i) (away s terminals radii set i v)

radius_below : (radii : List ℕ) (i : ℕ) → i < length radii → radius radii i ≤ sum radii
unfolding radius
radius_below radii i low = get_or-le-sum_by (λ (r : ℕ). r) radii i 0 low

-- moats around terminals that a set joins
record AreMoatsIn (s : Size) (pieces set : List (Piece × ℕ)) (terminals : List Vertex) (radii : List ℕ) : Type 0 where
  are : WeighsOnlyPieces s pieces
  moats : AreMoats s pieces terminals radii
  is : IsSetOf pieces set
  joins : Joins s (IsAllowed set) (InVertices terminals)

in_terminals : (terminals : List Vertex) (i : ℕ) → i < length terminals → InVertices terminals (terminal terminals i)
unfolding terminal
in_terminals terminals i low = (i, low, get_or_from_slice_get terminals i (get_or terminals i nowhere) (record { 0 = (get_or terminals i nowhere).0 }) (slice_get-get_or terminals i nowhere low))

terminal_vertex : (s : Size) (pieces set : List (Piece × ℕ)) (terminals : List Vertex) (radii : List ℕ) → AreMoatsIn s pieces set terminals radii → (i : ℕ) → i < length terminals → IsVertex s (terminal terminals i)
terminal_vertex s pieces set terminals radii m i low =
    let t = terminal terminals i in
    let at = in_terminals terminals i low in
    (walk_vertices s (IsAllowed set) t t (m.joins t t at at)).0

-- two terminals are apart by their radii
far_apart : (s : Size) (pieces set : List (Piece × ℕ)) (terminals : List Vertex) (radii : List ℕ) → AreMoatsIn s pieces set terminals radii → (i j : ℕ) → i < length terminals → j < length terminals → i ≢ j → radius radii i + radius radii j ≤ away s terminals radii set i (terminal terminals j)
unfolding away beyond radius terminal
far_apart s pieces set terminals radii m i j low high other =
    let first : i < length radii = omega (arith, low, m.moats.each) in
    let second : j < length radii = omega (arith, high, m.moats.each) in
    ⊎_elim
    (λ far. omega (arith, far, radius_below radii i first, radius_below radii j second))
    (λ has. omega (
      arith,
      has.light,
      m.moats.apart i j (get_or terminals i nowhere) (get_or terminals j nowhere) (radius radii i) (radius radii j) other
          (slice_get-get_or terminals i nowhere low) (slice_get-get_or terminals j nowhere high) (slice_get-get_or radii i 0 first) (slice_get-get_or radii j 0 second)
          has.set has.is_set has.walk,
    ))
    (within_is_set s pieces (beyond radii) set (terminal terminals i) (terminal terminals j) m.are m.is.allowed (terminal_vertex s pieces set terminals radii m i low) (terminal_vertex s pieces set terminals radii m j high))

-- so a way from the one to the other by any vertex is no shorter
apart_at : (s : Size) (pieces set : List (Piece × ℕ)) (terminals : List Vertex) (radii : List ℕ) → AreMoatsIn s pieces set terminals radii → (i j v : ℕ) → i < length terminals → j < length terminals → i ≢ j →
    radius radii i + radius radii j ≤ away s terminals radii set i v + away s terminals radii set j v
unfolding away
apart_at s pieces set terminals radii m i j v low high other =
    let far = beyond radii in
    let a = terminal terminals i in
    let b = terminal terminals j in
    omega (arith, far_apart s pieces set terminals radii m i j low high other, within-triangle s far set a v b, within-sym s far set v b)

rises : (s : Size) (pieces set : List (Piece × ℕ)) (terminals : List Vertex) (radii : List ℕ) (i : ℕ) (p : Piece) (k a b : ℕ) → Contains set (p, k) → Connects s p a b → away s terminals radii set i b ≤ away s terminals radii set i a + k
unfolding away
rises s pieces set terminals radii i p k a b at connects =
    let far = beyond radii in
    let t = terminal terminals i in
    omega (arith, within-triangle s far set t a b, within-piece s far set p k a b at connects)

-- the shares of a piece add up to at most its weight
shares_within : (s : Size) (pieces set : List (Piece × ℕ)) (terminals : List Vertex) (radii : List ℕ) → AreMoatsIn s pieces set terminals radii → (x : Piece × ℕ) → Contains set x → total (λ i. difference s (deep s terminals radii set i) x.0) (length terminals) ≤ x.1
unfolding difference deep
shares_within s pieces set terminals radii m x at =
    let p = x.0 in
    let w = x.1 in
    let a = start_of p in
    let b = end_of s p in
    let is : IsPiece s p = m.are p (w, m.is.allowed x at) in
    let D = away s terminals radii set in
    let r = radius radii in
    let up = λ (i : ℕ). rises s pieces set terminals radii i p w a b at (inl (is, refl, refl)) in
    let down = λ (i : ℕ). rises s pieces set terminals radii i p w b a at (inr (is, refl, refl)) in
    let apart = apart_at s pieces set terminals radii m in
    two_positive (λ i. difference s (deep s terminals radii set i) p) w (length terminals)
    (λ i low. share_one (r i) (D i a) (D i b) w (down i) (up i))
    (λ i j low high other first second.
    let at_a = apart i j a low high other in
    let at_b = apart i j b low high other in
    share_two (r i) (r j) (D i a) (D i b) (D j a) (D j b) w (down i) (up i) (down j) (up j) at_a at_b (omega (arith, at_b, up i, at_a, down j)) (omega (arith, at_a, down i)) first second)
    (λ i j l low high last one two three first second.
    share_three (r i) (r j) (r l) (D i a) (D i b) (D j a) (D j b) (D l a) (D l b)
    (apart i j a low high one) (apart i j b low high one) (apart i l a low last two) (apart i l b low last two) (apart j l a high last three) (apart j l b high last three) first second)

-- each moat is crossed
crosses : (s : Size) (pieces set : List (Piece × ℕ)) (terminals : List Vertex) (radii : List ℕ) → AreMoatsIn s pieces set terminals radii → (i j : ℕ) → i < length terminals → j < length terminals → i ≢ j → radius radii i ≤ weight (by_difference s (deep s terminals radii set i) set)
unfolding deep away
crosses s pieces set terminals radii m i j low high other =
    let a = terminal terminals i in
    let b = terminal terminals j in
    let D = deep s terminals radii set i in
    omega (
      arith,
      within-refl s (beyond radii) set a,
      far_apart s pieces set terminals radii m i j low high other,
      differs_by s D set b a (m.joins b a (in_terminals terminals j high) (in_terminals terminals i low)),
    )

pub moats_within : (s : Size) (pieces set : List (Piece × ℕ)) (terminals : List Vertex) (radii : List ℕ) → WeighsOnlyPieces s pieces → AreMoats s pieces terminals radii → 2 ≤ length terminals → IsSetOf pieces set → Joins s (IsAllowed set) (InVertices terminals) → sum radii ≤ weight set
unfolding radius
moats_within s pieces set terminals radii are moats two is joins =
    let m : AreMoatsIn s pieces set terminals radii = record { are = are; moats = moats; is = is; joins = joins } in
    let n = length terminals in
    let whole : total (radius radii) n ≡ sum radii = ap (total (radius radii)) (sym moats.each) ∙ total-sum radii in
    let each : total (radius radii) n ≤ total (λ i. weight (by_difference s (deep s terminals radii set i) set)) n = total-at_most (radius radii) (λ i. weight (by_difference s (deep s terminals radii set i) set)) n
    (λ i low. ⊎_elim
    (λ first. crosses s pieces set terminals radii m i 1 low (omega (arith, two)) (λ same. absurd (omega (arith, first, same))))
    (λ later. crosses s pieces set terminals radii m i 0 low (omega (arith, two)) later)
    (cases_eq i 0)) in
    omega (arith, whole, each, exchanged s (deep s terminals radii set) n set (shares_within s pieces set terminals radii m))
