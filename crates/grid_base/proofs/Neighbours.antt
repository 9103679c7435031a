-- The neighbours of a vertex are those that a piece connects with it.
use Rattle.std.proofs.Common.{◌≡◌, ℕ, zero, suc, ◌+◌, ◌-◌, ◌*◌, ◌<◌, Bool, true, false, ltb, List, [], ◌∷◌, Option, Some, None, slice_get, get_or, drop, length, Contains, IfSome, All, refl, sym, ◌∙◌, ap, subst, inl, inr, ⊎_elim, arith}
use Rattle.grid_base.specs.declared.piece.Piece.{Piece}
use Rattle.grid_base.specs.declared.size.Size.{Size}
use Rattle.grid_base.specs.declared.vertex.Vertex.{Vertex}
use Rattle.grid_base.specs.Numbers.{cols, rows, layers, vertex_number, col_of, row_of, layer_of, place_at, to_next_col, to_next_row, to_next_layer, end_place, IsVertex, Goes, Connects}
use Rattle.grid_base.proofs.Pieces.{start_of-to_next_col, start_of-to_next_row, end_place-to_next_col, end_place-to_next_row, end_of-to_next_col, end_of-to_next_row, end_of-to_next_layer, by_start, place_at-end_of}
use Rattle.grid_base.proofs.Places.{place_at-inside, place_at-number, vertex_number-place}
use Rattle.std.proofs.lemmas.Bool.{ltb-true, lt-ltb}
use Rattle.std.proofs.lemmas.List.{at_drop_more}
use Rattle.std.proofs.lemmas.List.Elements.{All-from_recursion}
use Rattle.std.proofs.lemmas.Option.{same_Some, slice_get_within, slice_get-get_or, get_or_from_slice_get}
use Rattle.grid_base.specs.declared.place.Place.{Place}
use Rattle.grid_base.specs.Lists.{At}
use Rattle.grid_base.specs.Neighbours.{LeadsFrom, step, west, east, south, north, down, up, steps, present, neighbours}

-- east of a vertex that isn't in the last column
pub goes_east : (s : Size) (v : ℕ) → IsVertex s v → col_of s v + 1 < cols s → Goes s (to_next_col v) v (v + 1)
goes_east s v vertex room =
    let inside = place_at-inside s v vertex in
    ((rw (start_of-to_next_col v) vertex, rw (end_place-to_next_col s v) (room, inside.1, inside.2)), start_of-to_next_col v, end_of-to_next_col s v)

pub goes_north : (s : Size) (v : ℕ) → IsVertex s v → row_of s v + 1 < rows s → Goes s (to_next_row v) v (v + cols s)
goes_north s v vertex room =
    let inside = place_at-inside s v vertex in
    ((rw (start_of-to_next_row v) vertex, rw (end_place-to_next_row s v) (inside.0, room, inside.2)), start_of-to_next_row v, end_of-to_next_row s v)

pub goes_up : (s : Size) (v : ℕ) → IsVertex s v → layer_of s v + 1 < layers s → Goes s (to_next_layer v) v (v + cols s * rows s)
goes_up s v vertex room =
    let inside = place_at-inside s v vertex in
    ((vertex, (inside.0, inside.1, room)), refl, end_of-to_next_layer s v)

number_west : (s : Size) (col row layer : ℕ) → vertex_number s col row layer ≡ vertex_number s (col + 1) row layer - 1
number_west s col row layer = omega arith

number_south : (s : Size) (col row layer : ℕ) → vertex_number s col row layer ≡ vertex_number s col (row + 1) layer - cols s
number_south s col row layer = omega arith

number_down : (s : Size) (col row layer : ℕ) → vertex_number s col row layer ≡ vertex_number s col row (layer + 1) - cols s * rows s
number_down s col row layer = omega arith

one_less : (n : ℕ) → 0 < n → n - 1 + 1 ≡ n
one_less n positive = omega arith

-- and back again
back_from_west : (s : Size) (col row layer v : ℕ) → vertex_number s (col + 1) row layer ≡ v → v - 1 + 1 ≡ v
back_from_west s col row layer v is = omega arith

back_from_south : (s : Size) (col row layer v : ℕ) → vertex_number s col (row + 1) layer ≡ v → v - cols s + cols s ≡ v
back_from_south s col row layer v is = omega arith

back_from_down : (s : Size) (col row layer v : ℕ) → vertex_number s col row (layer + 1) ≡ v → v - cols s * rows s + cols s * rows s ≡ v
back_from_down s col row layer v is = omega arith

-- the place of the vertex that stands one step before, in column, row or layer
pub place_west : (s : Size) (v : ℕ) → IsVertex s v → 0 < col_of s v → place_at s (v - 1) ≡ record { col = col_of s v - 1; row = row_of s v; layer = layer_of s v }
place_west s v vertex there =
    let inside = place_at-inside s v vertex in
    let number : vertex_number s (col_of s v - 1) (row_of s v) (layer_of s v) ≡ v - 1 =
    number_west s (col_of s v - 1) (row_of s v) (layer_of s v) ∙ rw (one_less _ there, vertex_number-place s v) refl in
    rw (sym number) (place_at-number s (col_of s v - 1) (row_of s v) (layer_of s v) (omega (arith, inside.0)) inside.1)

pub place_south : (s : Size) (v : ℕ) → IsVertex s v → 0 < row_of s v → place_at s (v - cols s) ≡ record { col = col_of s v; row = row_of s v - 1; layer = layer_of s v }
place_south s v vertex there =
    let inside = place_at-inside s v vertex in
    let number : vertex_number s (col_of s v) (row_of s v - 1) (layer_of s v) ≡ v - cols s =
    number_south s (col_of s v) (row_of s v - 1) (layer_of s v) ∙ rw (one_less _ there, vertex_number-place s v) refl in
    rw (sym number) (place_at-number s (col_of s v) (row_of s v - 1) (layer_of s v) inside.0 (omega (arith, inside.1)))

pub place_down : (s : Size) (v : ℕ) → IsVertex s v → 0 < layer_of s v → place_at s (v - cols s * rows s) ≡ record { col = col_of s v; row = row_of s v; layer = layer_of s v - 1 }
place_down s v vertex there =
    let inside = place_at-inside s v vertex in
    let number : vertex_number s (col_of s v) (row_of s v) (layer_of s v - 1) ≡ v - cols s * rows s =
    number_down s (col_of s v) (row_of s v) (layer_of s v - 1) ∙ rw (one_less _ there, vertex_number-place s v) refl in
    rw (sym number) (place_at-number s (col_of s v) (row_of s v) (layer_of s v - 1) inside.0 inside.1)

by_test : (s : Size) (v : ℕ) (inside : Bool) (w : ℕ) (p : Piece) → (inside ≡ true → Connects s p v w) → LeadsFrom s v (step inside w p)
by_test s v true w p connects = connects refl
by_test s v false w p connects = tt

below : (s : Size) (v w : ℕ) → IsVertex s v → IsVertex s (v - w)
below s v w vertex = omega arith

pub west_leads : (s : Size) (v : ℕ) → IsVertex s v → LeadsFrom s v (west s v)
west_leads s v vertex =
    by_test s v (ltb 0 (col_of s v)) (v - 1) (to_next_col (v - 1)) (λ test.
    let there = ltb-true _ _ test in
    let inside = place_at-inside s v vertex in
    let col : col_of s (v - 1) + 1 ≡ col_of s v = ap (λ (q : Place). q.col + 1) (place_west s v vertex there) ∙ one_less _ there in
    let goes = goes_east s (v - 1) (below s v 1 vertex) (rw col inside.0) in
    inr (goes.0, goes.1, goes.2 ∙ back_from_west s (col_of s v - 1) (row_of s v) (layer_of s v) v (rw (one_less _ there) (vertex_number-place s v))))

pub east_leads : (s : Size) (v : ℕ) → IsVertex s v → LeadsFrom s v (east s v)
east_leads s v vertex = by_test s v _ _ _ (λ test. inl (goes_east s v vertex (ltb-true _ _ test)))

pub south_leads : (s : Size) (v : ℕ) → IsVertex s v → LeadsFrom s v (south s v)
south_leads s v vertex =
    by_test s v (ltb 0 (row_of s v)) (v - cols s) (to_next_row (v - cols s)) (λ test.
    let there = ltb-true _ _ test in
    let inside = place_at-inside s v vertex in
    let row : row_of s (v - cols s) + 1 ≡ row_of s v = ap (λ (q : Place). q.row + 1) (place_south s v vertex there) ∙ one_less _ there in
    let goes = goes_north s (v - cols s) (below s v (cols s) vertex) (rw row inside.1) in
    inr (goes.0, goes.1, goes.2 ∙ back_from_south s (col_of s v) (row_of s v - 1) (layer_of s v) v (rw (one_less _ there) (vertex_number-place s v))))

pub north_leads : (s : Size) (v : ℕ) → IsVertex s v → LeadsFrom s v (north s v)
north_leads s v vertex = by_test s v _ _ _ (λ test. inl (goes_north s v vertex (ltb-true _ _ test)))

pub down_leads : (s : Size) (v : ℕ) → IsVertex s v → LeadsFrom s v (down s v)
down_leads s v vertex =
    by_test s v (ltb 0 (layer_of s v)) (v - cols s * rows s) (to_next_layer (v - cols s * rows s)) (λ test.
    let there = ltb-true _ _ test in
    let inside = place_at-inside s v vertex in
    let layer : layer_of s (v - cols s * rows s) + 1 ≡ layer_of s v = ap (λ (q : Place). q.layer + 1) (place_down s v vertex there) ∙ one_less _ there in
    let goes = goes_up s (v - cols s * rows s) (below s v (cols s * rows s) vertex) (rw layer inside.2) in
    inr (goes.0, goes.1, goes.2 ∙ back_from_down s (col_of s v) (row_of s v) (layer_of s v - 1) v (rw (one_less _ there) (vertex_number-place s v))))

pub up_leads : (s : Size) (v : ℕ) → IsVertex s v → LeadsFrom s v (up s v)
up_leads s v vertex = by_test s v _ _ _ (λ test. inl (goes_up s v vertex (ltb-true _ _ test)))

-- each of the six steps leads to a neighbour
pub all_lead : (s : Size) (v : ℕ) → IsVertex s v → All (LeadsFrom s v) (steps s v)
all_lead s v vertex =
    All-from_recursion (LeadsFrom s v) (steps s v)
    (west_leads s v vertex, (east_leads s v vertex, (south_leads s v vertex, (north_leads s v vertex, (down_leads s v vertex, (up_leads s v vertex, tt))))))

-- the same by its place
pub steps_lead : (s : Size) (v k : ℕ) (x : Option (Vertex × Piece)) → IsVertex s v → At (steps s v) k x → LeadsFrom s v x
steps_lead s v k x vertex at =
    subst (LeadsFrom s v) (get_or_from_slice_get (steps s v) k x x at) (all_lead s v vertex k x (slice_get_within (steps s v) k x at))

step_there : (inside : Bool) (w : ℕ) (p : Piece) → inside ≡ true → step inside w p ≡ Some (record { 0 = w }, p)
step_there true w p is = refl
step_there false w p is = cc

-- the same at a vertex that is named in another way
step_to : (inside : Bool) (u w : ℕ) (p : ℕ → Piece) → inside ≡ true → u ≡ w → Some (step inside u (p u)) ≡ Some (Some (record { 0 = w }, p w))
step_to inside u w p there same =
    subst (λ (x : ℕ). Some (step inside u (p u)) ≡ Some (Some (record { 0 = x }, p x))) same (ap (λ (o : Option (Vertex × Piece)). Some o) (step_there inside u (p u) there))

-- one of the six steps leads to the other end of a piece
abbrev pub HasStep : Size → ℕ → ℕ → Piece → Type 0
HasStep s v w p = (k : ℕ) × (k < 6) × At (steps s v) k (Some (record { 0 = w }, p))

east_step : (s : Size) (v w : ℕ) → Goes s (to_next_col v) v w → HasStep s v w (to_next_col v)
east_step s v w goes =
    let inside = rw (end_place-to_next_col s v) at goes.0.1 in
    (1, omega arith, step_to _ (v + 1) w (λ _. to_next_col v) (lt-ltb _ _ inside.0) (sym (end_of-to_next_col s v) ∙ goes.2))

north_step : (s : Size) (v w : ℕ) → Goes s (to_next_row v) v w → HasStep s v w (to_next_row v)
north_step s v w goes =
    let inside = rw (end_place-to_next_row s v) at goes.0.1 in
    (3, omega arith, step_to _ (v + cols s) w (λ _. to_next_row v) (lt-ltb _ _ inside.1) (sym (end_of-to_next_row s v) ∙ goes.2))

up_step : (s : Size) (v w : ℕ) → Goes s (to_next_layer v) v w → HasStep s v w (to_next_layer v)
up_step s v w goes =
    (5, omega arith, step_to _ (v + cols s * rows s) w (λ _. to_next_layer v) (lt-ltb _ _ goes.0.1.2) (sym (end_of-to_next_layer s v) ∙ goes.2))

-- the place that a piece arrives at
arrives_at : (s : Size) (p : Piece) (v w : ℕ) → Goes s p w v → place_at s v ≡ end_place s p
arrives_at s p v w goes = ap (place_at s) (sym goes.2) ∙ place_at-end_of s p goes.0

positive : (m n : ℕ) → m ≡ n + 1 → 0 < m
positive m n is = omega arith

less_back : (v w k : ℕ) → w + k ≡ v → v - k ≡ w
less_back v w k is = omega arith

west_step : (s : Size) (v w : ℕ) → Goes s (to_next_col w) w v → HasStep s v w (to_next_col w)
west_step s v w goes =
    let there = positive _ _ (ap (λ (q : Place). q.col) (arrives_at s (to_next_col w) v w goes ∙ end_place-to_next_col s w)) in
    let back = less_back v w 1 (sym (end_of-to_next_col s w) ∙ goes.2) in
    (0, omega arith, step_to _ (v - 1) w to_next_col (lt-ltb _ _ there) back)

south_step : (s : Size) (v w : ℕ) → Goes s (to_next_row w) w v → HasStep s v w (to_next_row w)
south_step s v w goes =
    let there = positive _ _ (ap (λ (q : Place). q.row) (arrives_at s (to_next_row w) v w goes ∙ end_place-to_next_row s w)) in
    let back = less_back v w s.cols (sym (end_of-to_next_row s w) ∙ goes.2) in
    (2, omega arith, step_to _ (v - cols s) w to_next_row (lt-ltb _ _ there) back)

down_step : (s : Size) (v w : ℕ) → Goes s (to_next_layer w) w v → HasStep s v w (to_next_layer w)
down_step s v w goes =
    let there = positive _ _ (ap (λ (q : Place). q.layer) (arrives_at s (to_next_layer w) v w goes)) in
    let back = less_back v w (cols s * rows s) (sym (end_of-to_next_layer s w) ∙ goes.2) in
    (4, omega arith, step_to _ (v - cols s * rows s) w to_next_layer (lt-ltb _ _ there) back)

step_out : (s : Size) (p : Piece) (v w : ℕ) → Goes s p v w → HasStep s v w p
step_out s p v w goes =
    by_start v (λ q. Goes s q v w → HasStep s v w q) (east_step s v w) (north_step s v w) (up_step s v w) p goes.1 goes

step_in : (s : Size) (p : Piece) (v w : ℕ) → Goes s p w v → HasStep s v w p
step_in s p v w goes =
    by_start w (λ q. Goes s q w v → HasStep s v w q) (west_step s v w) (south_step s v w) (down_step s v w) p goes.1 goes

-- each piece of a vertex is a step
pub connects_step : (s : Size) (p : Piece) (v w : ℕ) → Connects s p v w → HasStep s v w p
connects_step s p v w connects = ⊎_elim (step_out s p v w) (step_in s p v w) connects

-- and stands in the list of the six
pub connects_listed : (s : Size) (p : Piece) (v : ℕ) (w : Vertex) → Connects s p v w.0 → Contains (steps s v) (Some (w, p))
connects_listed s p v w connects =
    let found = connects_step s p v w.0 connects in
    (found.0, found.1, get_or_from_slice_get (steps s v) found.0 (Some (w, p)) (Some (w, p)) found.2)

-- a step that was read from a table of the steps
pub step_read : (s : Size) (v k : ℕ) (table : List (Option (Vertex × Piece))) (x : Option (Vertex × Piece)) → table ≡ steps s v → k < 6 → get_or table k None ≡ x → At (steps s v) k x
step_read s v k table x is within read =
    slice_get-get_or (steps s v) k None within ∙ ap (λ (o : Option (Vertex × Piece)). Some o) (ap (λ (xs : List (Option (Vertex × Piece))). get_or xs k None) (sym is) ∙ read)

-- what is there among a list of options stands among those that are there
present_contains : {X : Type 0} (xs : List (Option X)) (k : ℕ) (x : X) → At xs k (Some x) → Contains (present xs) x
present_contains [] k x at = cc
present_contains (None ∷ xs) zero x at = cc
present_contains (None ∷ xs) (suc k) x at = present_contains xs k x at
present_contains (Some y ∷ xs) zero x at = (0, omega arith, same_Some _ _ (same_Some _ _ at))
present_contains (Some y ∷ xs) (suc k) x at = let found = present_contains xs k x at in (suc found.0, omega (arith, found.1), found.2)

-- each piece of a vertex leads to one of its neighbours
pub connects_neighbour : (s : Size) (p : Piece) (v : ℕ) (w : Vertex) → Connects s p v w.0 → Contains (neighbours s v) (w, p)
connects_neighbour s p v w connects =
    let found = connects_step s p v w.0 connects in
    present_contains (steps s v) found.0 (w, p) found.2

next_at : {X : Type 0} (x : X) (ys : List X) (n : ℕ) → 0 < n → slice_get (x ∷ ys) n ≡ slice_get ys (n - 1)
next_at x ys zero positive = absurd (omega (arith, positive))
next_at x ys (suc n) positive = let back : suc n - 1 ≡ n = omega arith in rw back refl

-- one that isn't there counts nothing among those that are there
pub present-none : {X : Type 0} (xs : List (Option X)) (k n : ℕ) → k < length xs → get_or xs k None ≡ None → slice_get (present (drop (k + 1) xs)) n ≡ slice_get (present (drop k xs)) n
present-none {X = X} xs k n within is =
    sym (at_drop_more (λ (ys : List (Option X)). slice_get (present ys) n) xs k None within ∙ ap (λ (o : Option X). slice_get (present (o ∷ drop (k + 1) xs)) n) is)

-- and one that is there counts once
pub present-some : {X : Type 0} (xs : List (Option X)) (k n : ℕ) (x : X) → k < length xs → get_or xs k None ≡ Some x → 0 < n → slice_get (present (drop (k + 1) xs)) (n - 1) ≡ slice_get (present (drop k xs)) n
present-some {X = X} xs k n x within is positive =
    sym (at_drop_more (λ (ys : List (Option X)). slice_get (present ys) n) xs k None within ∙ ap (λ (o : Option X). slice_get (present (o ∷ drop (k + 1) xs)) n) is ∙ next_at x (present (drop (k + 1) xs)) n positive)

present_place : {X : Type 0} (xs : List (Option X)) (i : ℕ) (x : X) → At (present xs) i x → (k : ℕ) × At xs k (Some x)
present_place [] i x at = cc
present_place (None ∷ xs) i x at = let found = present_place xs i x at in (suc found.0, found.1)
present_place {X = X} (Some y ∷ xs) zero x at = (0, ap (λ (o : Option X). Some o) at)
present_place (Some y ∷ xs) (suc i) x at = let found = present_place xs i x at in (suc found.0, found.1)

-- each neighbour is the other end of its piece
neighbour_connects : (s : Size) (v i : ℕ) (x : Vertex × Piece) → IsVertex s v → slice_get (neighbours s v) i ≡ Some x → Connects s x.1 v x.0.0
neighbour_connects s v i x vertex at =
    let found = present_place (steps s v) i x at in
    steps_lead s v found.0 (Some x) vertex found.1

if_some : {X : Type 0} (o : Option X) (P : X → Type 0) → ((x : X) → o ≡ Some x → P x) → IfSome o P
if_some None P holds = tt
if_some (Some x) P holds = holds x refl

pub neighbours_connect : (s : Size) (v i : ℕ) → IsVertex s v → IfSome (slice_get (neighbours s v) i) (λ x. Connects s x.1 v x.0.0)
neighbours_connect s v i vertex = if_some (slice_get (neighbours s v) i) (λ x. Connects s x.1 v x.0.0) (λ x at. neighbour_connects s v i x vertex at)
