-- The grid distance, each step at its floor, changes along a piece by at most the piece's floor.
use Rattle.std.proofs.Common.{◌≡◌, ℕ, ◌+◌, ◌-◌, ◌*◌, ◌^◌, ◌≤◌, List, min, sym, ◌∙◌, ap, subst, ⊎_elim, arith}
use Rattle.std.specs.Int.{abs_diff}
use Rattle.std.proofs.lemmas.Bool.Decides.{nat_tests}
use Rattle.std.proofs.lemmas.Nat.{mul-le}
use Rattle.grid_base.specs.declared.axis.Axis.{Axis}
use Rattle.grid_base.specs.declared.axis.Axis.TheVariants.{X, Y}
use Rattle.grid_base.specs.declared.piece.Piece.{Piece}
use Rattle.grid_base.specs.declared.piece.Piece.TheVariants.{Edge, Via}
use Rattle.grid_base.specs.declared.place.Place.{Place}
use Rattle.grid_base.specs.declared.size.Size.{Size}
use Rattle.grid_base.specs.Limits.{max_vertices}
use Rattle.grid_base.specs.Numbers.{place_at, next_along, start_of, end_of, end_place, edge_axis, edge_start, IsVertex}
use Rattle.grid_base.specs.Numbers.{IsInside, Goes}
use Rattle.grid_base.proofs.Pieces.{place_at-end_of, end_of-vertex}
use Rattle.grid_graph.specs.Limits.{max_weight}
use Rattle.grid_graph.specs.declared.floors.Floors.{Floors}
use Rattle.grid_graph.specs.Floors.{floor_along, floor_of, AreFloors}
use Rattle.label_search.specs.Floors.{floor_distance, floor_rest}
use Rattle.label_search.specs.Sets.{RisesSlowly}

-- two numbers are at most so far apart
abbrev pub AreApartBy : ℕ → ℕ → ℕ → Type 0
AreApartBy a b gap = (a ≤ b + gap) × (b ≤ a + gap)

-- a step more is a floor more at most
pub scaled : (m n floor : ℕ) → m ≤ n + 1 → m * floor ≤ n * floor + floor
scaled m n floor close = omega (arith, mul-le m floor (n + 1) floor close (omega arith))

-- one step changes the difference to a number by at most one
one_more : (c g floor : ℕ) → abs_diff (c + 1) g * floor ≤ abs_diff c g * floor + floor
one_more c g floor = scaled (abs_diff (c + 1) g) (abs_diff c g) floor (omega arith)

one_less : (c g floor : ℕ) → abs_diff c g * floor ≤ abs_diff (c + 1) g * floor + floor
one_less c g floor = scaled (abs_diff c g) (abs_diff (c + 1) g) floor (omega arith)

-- a step along an axis
step_along : (floors : Floors) (axis : Axis) (p goal : Place) →
    AreApartBy (floor_distance floors (next_along axis p) goal) (floor_distance floors p goal) (floor_along floors axis)
step_along floors X p goal = (
  omega (arith, one_more p.col goal.col floors.along_x),
  omega (arith, one_less p.col goal.col floors.along_x),
)
step_along floors Y p goal = (
  omega (arith, one_more p.row goal.row floors.along_y),
  omega (arith, one_less p.row goal.row floors.along_y),
)

-- the step of a piece
step_of : (s : Size) (floors : Floors) (goal : Place) (p : Piece) →
    AreApartBy (floor_distance floors (end_place s p) goal) (floor_distance floors (place_at s (start_of p)) goal)
    (floor_of floors p)
step_of s floors goal (Edge e) = step_along floors (edge_axis e.0) (place_at s (edge_start e.0)) goal
step_of s floors goal (Via v) =
    let here = place_at s v.0 in
    (omega (arith, one_more here.layer goal.layer floors.via), omega (arith, one_less here.layer goal.layer floors.via))

-- from a vertex
pub floor_rest-vertex : (s : Size) (floors : Floors) (goal : Place) (v : ℕ) → IsVertex s v
    → floor_rest s floors goal v ≡ floor_distance floors (place_at s v) goal
floor_rest-vertex s floors goal v vertex = grind (arith, nat_tests, vertex)

-- the ends of a piece
ends_within : (s : Size) (floors : Floors) (goal : Place) (p : Piece) (a b : ℕ) → Goes s p a b →
    AreApartBy (floor_rest s floors goal b) (floor_rest s floors goal a) (floor_of floors p)
ends_within s floors goal p a b goes =
    let rest = floor_rest s floors goal in
    let far : Place → ℕ = λ q. floor_distance floors q goal in
    let at_end : rest b ≡ far (end_place s p) =
    ap rest (sym goes.2) ∙ floor_rest-vertex s floors goal (end_of s p) (end_of-vertex s p goes.0)
    ∙ ap far (place_at-end_of s p goes.0) in
    let at_start : rest a ≡ far (place_at s (start_of p)) =
    ap rest (sym goes.1) ∙ floor_rest-vertex s floors goal (start_of p) goes.0.0 in
    rw (at_end, at_start) (step_of s floors goal p)

-- where no piece weighs less than its floor, what is left rises slowly
pub floor_rest-slow : (s : Size) (floors : Floors) (goal : Place) (pieces : List (Piece × ℕ)) → AreFloors floors pieces →
    RisesSlowly s pieces (floor_rest s floors goal)
floor_rest-slow s floors goal pieces are p weight a b weighs connects = ⊎_elim
    (λ goes. omega (arith, (ends_within s floors goal p a b goes).0, are p weight weighs))
    (λ goes. omega (arith, (ends_within s floors goal p b a goes).1, are p weight weighs))
    connects

-- floors that are lowered to a limit
pub record AreLowered (low floors : Floors) (limit : ℕ) : Type 0 where
  pub x : low.along_x ≡ min floors.along_x limit
  pub y : low.along_y ≡ min floors.along_y limit
  pub via : low.via ≡ min floors.via limit

lowered_axis : (low floors : Floors) (limit : ℕ) → AreLowered low floors limit → (axis : Axis)
    → floor_along low axis ≤ floor_along floors axis
lowered_axis low floors limit lowered X = omega (arith, lowered.x)
lowered_axis low floors limit lowered Y = omega (arith, lowered.y)

lowered_piece : (low floors : Floors) (limit : ℕ) → AreLowered low floors limit → (p : Piece)
    → floor_of low p ≤ floor_of floors p
lowered_piece low floors limit lowered (Edge e) = lowered_axis low floors limit lowered (edge_axis e.0)
lowered_piece low floors limit lowered (Via v) = omega (arith, lowered.via)

-- are floors
pub AreFloors-lowered : (low floors : Floors) (limit : ℕ) (pieces : List (Piece × ℕ)) → AreLowered low floors limit
    → AreFloors floors pieces → AreFloors low pieces
AreFloors-lowered low floors limit pieces lowered are p weight weighs =
    omega (arith, lowered_piece low floors limit lowered p, are p weight weighs)

-- two sides of a rectangle are together at most its content and 1
two_sides : (a b : ℕ) → (a + 1) + (b + 1) ≤ (a + 1) * (b + 1) + 1
two_sides a b = omega arith

sides_of : (a b : ℕ) → 1 ≤ a → 1 ≤ b → a + b ≤ a * b + 1
sides_of a b has_a has_b =
    let one_a : a - 1 + 1 ≡ a = omega arith in
    let one_b : b - 1 + 1 ≡ b = omega arith in
    subst (λ x. x + b ≤ x * b + 1) one_a (subst (λ y. a - 1 + 1 + y ≤ (a - 1 + 1) * y + 1) one_b (two_sides (a - 1) (b - 1)))

-- three sides of a box are together at most its content and 2
pub sides_within : (a b d : ℕ) → 1 ≤ a → 1 ≤ b → 1 ≤ d → a + b + d ≤ a * b * d + 2
sides_within a b d has_a has_b has_d =
    omega (arith, sides_of a b has_a has_b, sides_of (a * b) d (mul-le 1 1 a b has_a has_b) has_d)

-- three products with numbers below a limit are together at most the sum's
pub sum_within : (a b d x y z limit : ℕ) → x ≤ limit → y ≤ limit → z ≤ limit → a * x + b * y + d * z ≤ (a + b + d) * limit
sum_within a b d x y z limit low_x low_y low_z =
    omega (
      arith,
      mul-le a x a limit (omega arith) low_x,
      mul-le b y b limit (omega arith) low_y,
      mul-le d z d limit (omega arith) low_z,
    )

-- what is left to go is within the limit of bounds
pub floor_distance-limit : (s : Size) (goal here : Place) (floors : Floors) (cols rows layers : ℕ) → IsInside s goal
    → floors.along_x ≤ max_weight → floors.along_y ≤ max_weight → floors.via ≤ max_weight → IsInside s here →
    cols ≡ abs_diff here.col goal.col → rows ≡ abs_diff here.row goal.row → layers ≡ abs_diff here.layer goal.layer →
    cols * floors.along_x + rows * floors.along_y + layers * floors.via ≤ 2 ^ 61
floor_distance-limit s goal here floors cols rows layers at_goal low_x low_y low_via inside to_col to_row to_layer =
    let few : cols + rows + layers ≤ max_vertices =
    omega (
      arith,
      inside.0,
      inside.1,
      inside.2,
      at_goal.0,
      at_goal.1,
      at_goal.2,
      sides_within s.cols s.rows s.layers s.within.has_col s.within.has_row s.within.has_layer,
      s.within.vertex_limit,
    ) in
    let sum = sum_within cols rows layers floors.along_x floors.along_y floors.via max_weight low_x low_y low_via in
    omega (arith, sum, mul-le (cols + rows + layers) max_weight max_vertices max_weight few (omega arith))
