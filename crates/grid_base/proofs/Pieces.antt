-- Pieces, their ends, and the vertices that are neighbours.
use Rattle.std.proofs.Common.{◌≡◌, ℕ, ◌+◌, ◌*◌, ◌/◌, ◌%◌, ◌<◌, ◌≤◌, ◌==◌, ◌⊎◌, cond, true, false, refl, sym, ◌∙◌, ap, subst, min, max, inl, inr, ⊎_elim, arith, eq-eqb}
use Rattle.std.proofs.lemmas.Bool.{cases_eq, cases_lt}
use Rattle.std.proofs.lemmas.Nat.{mul-le}
use Rattle.grid_base.specs.declared.axis.Axis.TheVariants.{X, Y}
use Rattle.grid_base.specs.declared.edge.Edge.{Edge as EdgeNumber}
use Rattle.grid_base.specs.declared.piece.Piece.{Piece}
use Rattle.grid_base.specs.declared.piece.Piece.TheVariants.{Edge, Via}
use Rattle.grid_base.specs.declared.place.Place.{Place}
use Rattle.grid_base.specs.declared.size.Size.{Size}
use Rattle.grid_base.specs.declared.via.Via.{Via as ViaNumber}
use Rattle.grid_base.specs.Numbers.{vertex_number, place_at, col_of, row_of, layer_of, start_of, end_place, end_of, cols, rows, edge_start, edge_axis, to_next_col, to_next_row, to_next_layer, distance, IsVertex, IsInside, IsPiece, Goes, Connects, AreNeighbours}
use Rattle.grid_base.proofs.Places.{vertex_number-place, vertex_number-next_col, vertex_number-next_row, vertex_number-next_layer, place_at-number, place_at-inside, vertex_number-inside}

half_of_even : (v : ℕ) → 2 * v / 2 ≡ v
half_of_even v = omega arith

half_of_odd : (v : ℕ) → (2 * v + 1) / 2 ≡ v
half_of_odd v = omega arith

pub is_even : (v : ℕ) → (2 * v % 2 == 0) ≡ true
is_even v = eq-eqb _ _ (omega arith)

pub is_odd : (v : ℕ) → ((2 * v + 1) % 2 == 0) ≡ false
is_odd v = grind arith

pub start_of-to_next_col : (v : ℕ) → start_of (to_next_col v) ≡ v
start_of-to_next_col v = half_of_even v

pub start_of-to_next_row : (v : ℕ) → start_of (to_next_row v) ≡ v
start_of-to_next_row v = half_of_odd v

pub end_place-to_next_col : (s : Size) (v : ℕ) → end_place s (to_next_col v) ≡ record { col = col_of s v + 1; row = row_of s v; layer = layer_of s v }
end_place-to_next_col s v = rw (is_even v, half_of_even v) refl

pub end_place-to_next_row : (s : Size) (v : ℕ) → end_place s (to_next_row v) ≡ record { col = col_of s v; row = row_of s v + 1; layer = layer_of s v }
end_place-to_next_row s v = rw (is_odd v, half_of_odd v) refl

pub end_of-to_next_col : (s : Size) (v : ℕ) → end_of s (to_next_col v) ≡ v + 1
end_of-to_next_col s v = rw (end_place-to_next_col s v) (vertex_number-next_col s v)

pub end_of-to_next_row : (s : Size) (v : ℕ) → end_of s (to_next_row v) ≡ v + cols s
end_of-to_next_row s v = rw (end_place-to_next_row s v) (vertex_number-next_row s v)

pub end_of-to_next_layer : (s : Size) (v : ℕ) → end_of s (to_next_layer v) ≡ v + cols s * rows s
end_of-to_next_layer s v = vertex_number-next_layer s v

-- where an edge goes, by its axis
pub end_of-along_x : (s : Size) (p : Piece) (e : EdgeNumber) (v : ℕ) → p ≡ Edge e → v ≡ edge_start e.0 → edge_axis e.0 ≡ X → end_of s p ≡ v + 1
end_of-along_x s p e v is starts along = rw (is, starts, along) (vertex_number-next_col s (edge_start e.0))

pub end_of-along_y : (s : Size) (p : Piece) (e : EdgeNumber) (v : ℕ) → p ≡ Edge e → v ≡ edge_start e.0 → edge_axis e.0 ≡ Y → end_of s p ≡ v + cols s
end_of-along_y s p e v is starts along = rw (is, starts, along) (vertex_number-next_row s (edge_start e.0))

-- one of three pieces goes from a vertex
abbrev pub IsOneFrom : ℕ → Piece → Type 0
IsOneFrom v p = ((p ≡ to_next_col v) ⊎ (p ≡ to_next_row v)) ⊎ (p ≡ to_next_layer v)

edge_cases : (e : EdgeNumber) → IsOneFrom (e.0 / 2) (Edge e)
edge_cases e =
    let same : (n : ℕ) → e.0 ≡ n → Edge e ≡ Edge (record { 0 = n }) = λ n is. ap (λ m. Edge (record { 0 = m })) is in
    ⊎_elim (λ even. inl (inl (same _ (omega (arith, even))))) (λ odd. inl (inr (same _ (omega (arith, odd))))) (cases_eq (e.0 % 2) 0)

pub one_from_start : (p : Piece) → IsOneFrom (start_of p) p
one_from_start (Edge e) = edge_cases e
one_from_start (Via v) = inr refl

-- an edge tells its number, and a via its vertex
pub edge-tells : (j k : ℕ) → Edge (record { 0 = j }) ≡ Edge (record { 0 = k }) → j ≡ k
edge-tells j k same =
    let numbers : EdgeNumber → EdgeNumber → Type 0 = λ a b. a ≡ b in
    let equal : numbers (record { 0 = j }) (record { 0 = k }) = cc in ap (λ (e : EdgeNumber). e.0) equal

pub via-tells : (j k : ℕ) → to_next_layer j ≡ to_next_layer k → j ≡ k
via-tells j k same =
    let numbers : ViaNumber → ViaNumber → Type 0 = λ a b. a ≡ b in
    let equal : numbers (record { 0 = j }) (record { 0 = k }) = cc in ap (λ (v : ViaNumber). v.0) equal

-- what holds of the three pieces that go from a vertex holds of each piece
pub by_kind : (P : Piece → Type 0) → ((v : ℕ) → P (to_next_col v)) → ((v : ℕ) → P (to_next_row v)) → ((v : ℕ) → P (to_next_layer v)) → (p : Piece) → P p
by_kind P at_col at_row at_layer p =
    let back : (q : Piece) → P q → p ≡ q → P p = λ q holds is. subst P (sym is) holds in
    ⊎_elim (⊎_elim (back _ (at_col (start_of p))) (back _ (at_row (start_of p)))) (back _ (at_layer (start_of p))) (one_from_start p)

-- what holds of the three pieces that go from this vertex holds of each that does
pub by_start : (v : ℕ) (P : Piece → Type 0) → P (to_next_col v) → P (to_next_row v) → P (to_next_layer v) → (p : Piece) → start_of p ≡ v → P p
by_start v P at_col at_row at_layer p is =
    let same : (q : ℕ → Piece) → P (q v) → p ≡ q (start_of p) → P p = λ q holds to. subst P (sym (to ∙ ap q is)) holds in
    ⊎_elim (⊎_elim (same to_next_col at_col) (same to_next_row at_row)) (same to_next_layer at_layer) (one_from_start p)

-- the place that a piece goes to is one step from the place that it goes from
pub distance-end_place : (s : Size) (p : Piece) → distance (place_at s (start_of p)) (end_place s p) ≡ 1
distance-end_place s =
    by_kind (λ p. distance (place_at s (start_of p)) (end_place s p) ≡ 1)
    (λ v. rw (half_of_even v, is_even v) (omega arith))
    (λ v. rw (half_of_odd v, is_odd v) (omega arith))
    (λ v. omega arith)

-- the end of a piece is at its end place
pub place_at-end_of : (s : Size) (p : Piece) → IsPiece s p → place_at s (end_of s p) ≡ end_place s p
place_at-end_of s p piece = let far = end_place s p in place_at-number s far.col far.row far.layer piece.1.0 piece.1.1

pub end_of-vertex : (s : Size) (p : Piece) → IsPiece s p → IsVertex s (end_of s p)
end_of-vertex s p piece = vertex_number-inside s (end_place s p) piece.1

-- a piece goes to a vertex of a greater number
pub start_of-below : (s : Size) (p : Piece) → start_of p < end_of s p
start_of-below s =
    by_kind (λ p. start_of p < end_of s p)
    (λ v. rw (half_of_even v, is_even v) (omega (arith, vertex_number-next_col s v)))
    (λ v. rw (half_of_odd v, is_odd v) (omega (arith, vertex_number-next_row s v, s.within.has_col)))
    (λ v. let step : 1 ≤ cols s * rows s = mul-le 1 1 (cols s) (rows s) s.within.has_col s.within.has_row in omega (arith, vertex_number-next_layer s v))

-- the two ends of a piece are neighbours
pub ends_are_neighbours : (s : Size) (p : Piece) → IsPiece s p → AreNeighbours s (start_of p) (end_of s p)
ends_are_neighbours s p piece =
    (piece.0, end_of-vertex s p piece, subst (λ far. distance (place_at s (start_of p)) far ≡ 1) (sym (place_at-end_of s p piece)) (distance-end_place s p))

pub AreNeighbours-sym : (s : Size) (a b : ℕ) → AreNeighbours s a b → AreNeighbours s b a
AreNeighbours-sym s a b near = (near.1, near.0, omega (arith, near.2))

pub neighbours_from_goes : (s : Size) (p : Piece) (a b : ℕ) → Goes s p a b → AreNeighbours s a b
neighbours_from_goes s p a b goes = rw (sym goes.1, sym goes.2) (ends_are_neighbours s p goes.0)

-- what a piece connects are neighbours
pub neighbours_from_connects : (s : Size) (p : Piece) (a b : ℕ) → Connects s p a b → AreNeighbours s a b
neighbours_from_connects s p a b connects =
    ⊎_elim
    (neighbours_from_goes s p a b)
    (λ goes. AreNeighbours-sym s b a (neighbours_from_goes s p b a goes))
    connects

-- it connects its ends in either order
pub connects_back : (s : Size) (p : Piece) (a b : ℕ) → Connects s p a b → Connects s p b a
connects_back s p a b connects = ⊎_elim (λ there. inr there) (λ back. inl back) connects

-- the far end of a piece is a vertex
pub end_vertex : (s : Size) (p : Piece) (a b : ℕ) → Connects s p a b → IsVertex s b
end_vertex s p a b connects = (neighbours_from_connects s p a b connects).1

-- the piece that goes from a vertex to a place beside it
piece_to : Size → ℕ → Place → Piece
piece_to s v far = cond (far.col == col_of s v + 1) (to_next_col v) (cond (far.row == row_of s v + 1) (to_next_row v) (to_next_layer v))

same_test : (n : ℕ) → (n == n) ≡ true
same_test n = eq-eqb n n refl

below_test : (n : ℕ) → (n == n + 1) ≡ false
below_test n = grind arith

piece_to-end_place : (s : Size) (p : Piece) → piece_to s (start_of p) (end_place s p) ≡ p
unfolding piece_to
piece_to-end_place s =
    by_kind (λ p. piece_to s (start_of p) (end_place s p) ≡ p)
    (λ v. rw (half_of_even v, is_even v, same_test (col_of s v + 1)) refl)
    (λ v. rw (half_of_odd v, is_odd v, below_test (col_of s v), same_test (row_of s v + 1)) refl)
    (λ v. rw (below_test (col_of s v), below_test (row_of s v)) refl)

-- two pieces that go from one vertex to one place are one
pub same_piece : (s : Size) (p q : Piece) → start_of p ≡ start_of q → end_place s p ≡ end_place s q → p ≡ q
same_piece s p q same_near same_far =
    sym (piece_to-end_place s p) ∙ ap (λ v. piece_to s v (end_place s p)) same_near ∙ ap (piece_to s (start_of q)) same_far ∙ piece_to-end_place s q

-- a piece from a vertex to the place of another goes there
pub goes_to_place : (s : Size) (p : Piece) (b : ℕ) → IsVertex s (start_of p) → IsVertex s b → end_place s p ≡ place_at s b → IsPiece s p × (end_of s p ≡ b)
goes_to_place s p b near far arrives =
    ((near, subst (IsInside s) (sym arrives) (place_at-inside s b far)), ap (λ (place : Place). vertex_number s place.col place.row place.layer) arrives ∙ vertex_number-place s b)

-- the place is one step further in column, row or layer
abbrev IsStep : Place → Place → Type 0
IsStep p q =
    ((q ≡ record { col = p.col + 1; row = p.row; layer = p.layer }) ⊎ (q ≡ record { col = p.col; row = p.row + 1; layer = p.layer }))
    ⊎ (q ≡ record { col = p.col; row = p.row; layer = p.layer + 1 })

same_place : (p q : Place) → p.col ≡ q.col → p.row ≡ q.row → p.layer ≡ q.layer → p ≡ q
same_place p q cols rows layers =
    let at : ℕ → ℕ → ℕ → Place = λ c r l. record { col = c; row = r; layer = l } in
    ap (λ c. at c p.row p.layer) cols ∙ ap (λ r. at q.col r p.layer) rows ∙ ap (λ l. at q.col q.row l) layers

-- two places at distance 1 are a step apart, one way or the other
step_from_distance : (p q : Place) → distance p q ≡ 1 → IsStep p q ⊎ IsStep q p
step_from_distance p q apart =
    ⊎_elim
    (λ at_col. ⊎_elim
    (λ at_row. ⊎_elim
    (λ at_layer. absurd (omega arith))
    (λ off_layer. ⊎_elim
    (λ up. inl (inr (same_place q (record { col = p.col; row = p.row; layer = p.layer + 1 }) (omega arith) (omega arith) (omega arith))))
    (λ down. inr (inr (same_place p (record { col = q.col; row = q.row; layer = q.layer + 1 }) (omega arith) (omega arith) (omega arith))))
    (cases_lt p.layer q.layer))
    (cases_eq p.layer q.layer))
    (λ off_row. ⊎_elim
    (λ north. inl (inl (inr (same_place q (record { col = p.col; row = p.row + 1; layer = p.layer }) (omega arith) (omega arith) (omega arith)))))
    (λ south. inr (inl (inr (same_place p (record { col = q.col; row = q.row + 1; layer = q.layer }) (omega arith) (omega arith) (omega arith)))))
    (cases_lt p.row q.row))
    (cases_eq p.row q.row))
    (λ off_col. ⊎_elim
    (λ east. inl (inl (inl (same_place q (record { col = p.col + 1; row = p.row; layer = p.layer }) (omega arith) (omega arith) (omega arith)))))
    (λ west. inr (inl (inl (same_place p (record { col = q.col + 1; row = q.row; layer = q.layer }) (omega arith) (omega arith) (omega arith)))))
    (cases_lt p.col q.col))
    (cases_eq p.col q.col)

-- a piece that goes from a vertex to the place of another goes to that one
pub goes_by_step : (s : Size) (p : Piece) (a b : ℕ) → IsVertex s a → IsVertex s b → start_of p ≡ a → end_place s p ≡ place_at s b → Goes s p a b
goes_by_step s p a b near far starts arrives =
    let goes = goes_to_place s p b (rw starts near) far arrives in
    (goes.0, starts, goes.1)

piece_by_step : (s : Size) (a b : ℕ) → IsVertex s a → IsVertex s b → IsStep (place_at s a) (place_at s b) → (p : Piece) × Goes s p a b
piece_by_step s a b near far step =
    ⊎_elim
    (⊎_elim
    (λ east. (to_next_col a, goes_by_step s (to_next_col a) a b near far (start_of-to_next_col a) (end_place-to_next_col s a ∙ sym east)))
    (λ north. (to_next_row a, goes_by_step s (to_next_row a) a b near far (start_of-to_next_row a) (end_place-to_next_row s a ∙ sym north))))
    (λ up. (to_next_layer a, goes_by_step s (to_next_layer a) a b near far refl (sym up)))
    step

-- between neighbours there is a piece
pub piece_from_neighbours : (s : Size) (a b : ℕ) → AreNeighbours s a b → (p : Piece) × Connects s p a b
piece_from_neighbours s a b near =
    ⊎_elim
    (λ step. let found = piece_by_step s a b near.0 near.1 step in (found.0, inl found.1))
    (λ step. let found = piece_by_step s b a near.1 near.0 step in (found.0, inr found.1))
    (step_from_distance (place_at s a) (place_at s b) near.2)

-- a piece that connects two vertices goes from the one of smaller number to the other
pub goes_from_connects : (s : Size) (p : Piece) (a b : ℕ) → Connects s p a b → Goes s p (min a b) (max a b)
goes_from_connects s p a b connects =
    let below = start_of-below s p in
    ⊎_elim
    (λ goes. (goes.0, omega (arith, below, goes.1, goes.2), omega (arith, below, goes.1, goes.2)))
    (λ goes. (goes.0, omega (arith, below, goes.1, goes.2), omega (arith, below, goes.1, goes.2)))
    connects

pub connects_from_goes : (s : Size) (p : Piece) (a b : ℕ) → Goes s p (min a b) (max a b) → Connects s p a b
connects_from_goes s p a b goes =
    ⊎_elim
    (λ (up : a < b). inl (goes.0, omega (arith, goes.1), omega (arith, goes.2)))
    (λ (down : b ≤ a). inr (goes.0, omega (arith, goes.1), omega (arith, goes.2)))
    (cases_lt a b)

-- two vertices are the ends of one piece at most
pub one_piece : (s : Size) (p q : Piece) (a b : ℕ) → Goes s p a b → Goes s q a b → p ≡ q
one_piece s p q a b first second =
    same_piece s p q (first.1 ∙ sym second.1)
    (sym (place_at-end_of s p first.0) ∙ ap (place_at s) (first.2 ∙ sym second.2) ∙ place_at-end_of s q second.0)
