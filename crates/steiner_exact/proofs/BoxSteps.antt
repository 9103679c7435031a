-- The boxes of terminals are a family of lower bounds.
use Rattle.std.proofs.Common.{ℕ, ◌≡◌, ◌+◌, ◌*◌, ◌^◌, ◌<◌, ◌≤◌, ◌==◌, true, false, List, length, get_or, All, refl, sym, ap, subst, ◌∙◌, ⊎_elim, arith}
use Rattle.std.proofs.Math.Nat.{pow-le-pow_right}
use Rattle.std.proofs.lemmas.Nat.{mul-le}
use Rattle.std.proofs.lemmas.Option.{slice_get_within, get_or_from_slice_get}
use Rattle.grid_base.specs.declared.axis.Axis.{Axis}
use Rattle.grid_base.specs.declared.axis.Axis.TheVariants.{X, Y}
use Rattle.grid_base.specs.declared.piece.Piece.{Piece}
use Rattle.grid_base.specs.declared.piece.Piece.TheVariants.{Edge, Via}
use Rattle.grid_base.specs.declared.place.Place.{Place}
use Rattle.grid_base.specs.declared.size.Size.{Size}
use Rattle.grid_base.specs.declared.vertex.Vertex.{Vertex}
use Rattle.grid_base.specs.Limits.{max_vertices}
use Rattle.grid_base.specs.Lists.{At}
use Rattle.grid_base.specs.Numbers.{cols, rows, layers, col_of, row_of, layer_of, place_at, next_along, start_of, end_place, edge_axis, edge_start, IsVertex, IsInside, Goes}
use Rattle.grid_base.proofs.Pieces.{place_at-end_of}
use Rattle.grid_base.proofs.Places.{place_at-inside}
use Rattle.grid_graph.specs.declared.floors.Floors.{Floors}
use Rattle.grid_graph.specs.Floors.{floor_along, floor_of, AreFloors, AreWithin}
use Rattle.grid_graph.specs.Limits.{max_weight}
use Rattle.steiner_tables.specs.Masks.{bit, single, AreParts}
use Rattle.label_search.specs.Sets.{RisesSlowly}
use Rattle.steiner_tables.specs.Tables.{IsFamily}
use Rattle.label_search.proofs.FloorSteps.{AreApartBy, scaled, sides_within, sum_within}
use Rattle.steiner_exact.specs.declared.extent.Extent.{Extent}
use Rattle.steiner_exact.specs.declared.terminal_box.TerminalBox.{TerminalBox}
use Rattle.steiner_exact.specs.Boxes.{none, extent_of, width_with, with_place, box_distance, IsBoxIn, no_box, box_of, first_box, box_low}
use Rattle.steiner_exact.proofs.BoxSides.{extent_none, extent_taken, extent_passed, width-parts, width-single, width-more, width-less, highest-below}

more : (extent : Extent) (x floor : ℕ) → width_with extent (x + 1) * floor ≤ width_with extent x * floor + floor
more extent x floor = scaled (width_with extent (x + 1)) (width_with extent x) floor (width-more extent x)

less : (extent : Extent) (x floor : ℕ) → width_with extent x * floor ≤ width_with extent (x + 1) * floor + floor
less extent x floor = scaled (width_with extent x) (width_with extent (x + 1)) floor (width-less extent x)

-- a step along an axis
step_along : (floors : Floors) (box : TerminalBox) (axis : Axis) (p : Place) → AreApartBy (box_distance floors box (next_along axis p)) (box_distance floors box p) (floor_along floors axis)
step_along floors box X p = (omega (arith, more box.cols p.col floors.along_x), omega (arith, less box.cols p.col floors.along_x))
step_along floors box Y p = (omega (arith, more box.rows p.row floors.along_y), omega (arith, less box.rows p.row floors.along_y))

-- the step of a piece
step_of : (s : Size) (floors : Floors) (box : TerminalBox) (p : Piece) → AreApartBy (box_distance floors box (end_place s p)) (box_distance floors box (place_at s (start_of p))) (floor_of floors p)
step_of s floors box (Edge e) = step_along floors box (edge_axis e.0) (place_at s (edge_start e.0))
step_of s floors box (Via v) =
    let here = place_at s v.0 in
    (omega (arith, more box.layers here.layer floors.via), omega (arith, less box.layers here.layer floors.via))

-- the ends of a piece
ends_apart : (s : Size) (floors : Floors) (box : TerminalBox) (p : Piece) (a b : ℕ) → Goes s p a b →
    AreApartBy (box_distance floors box (place_at s b)) (box_distance floors box (place_at s a)) (floor_of floors p)
ends_apart s floors box p a b goes =
    let far : Place → ℕ = box_distance floors box in
    let at_end : far (place_at s b) ≡ far (end_place s p) = ap (λ v. far (place_at s v)) (sym goes.2) ∙ ap far (place_at-end_of s p goes.0) in
    let at_start : far (place_at s a) ≡ far (place_at s (start_of p)) = ap (λ v. far (place_at s v)) (sym goes.1) in
    rw (at_end, at_start) (step_of s floors box p)

-- where no piece weighs less than its floor, what a box reaches rises slowly
pub box-slow : (s : Size) (floors : Floors) (box : TerminalBox) (pieces : List (Piece × ℕ)) → AreFloors floors pieces → RisesSlowly s pieces (λ v. box_distance floors box (place_at s v))
box-slow s floors box pieces are p weight a b weighs connects = ⊎_elim
    (λ goes. omega (arith, (ends_apart s floors box p a b goes).0, are p weight weighs))
    (λ goes. omega (arith, (ends_apart s floors box p b a goes).1, are p weight weighs))
    connects

-- three widths, each at its floor
split_sides : (a b d a1 b1 d1 a2 b2 d2 x y z : ℕ) → a ≤ a1 + a2 → b ≤ b1 + b2 → d ≤ d1 + d2 → a * x + b * y + d * z ≤ (a1 * x + b1 * y + d1 * z) + (a2 * x + b2 * y + d2 * z)
split_sides a b d a1 b1 d1 a2 b2 d2 x y z in_cols in_rows in_layers =
    omega (arith, mul-le a x (a1 + a2) x in_cols (omega arith), mul-le b y (b1 + b2) y in_rows (omega arith), mul-le d z (d1 + d2) z in_layers (omega arith))

-- the boxes of two parts reach together at least as far as that of both
pub box-parts : (s : Size) (floors : Floors) (terminals : List Vertex) (one other mask v : ℕ) → AreParts one other mask →
    box_low s floors terminals mask v ≤ box_low s floors terminals one v + box_low s floors terminals other v
box-parts s floors terminals one other mask v parts =
    let n = length terminals in
    let width : (ℕ → ℕ) → ℕ → ℕ = λ f m. width_with (extent_of f terminals m n) (f v) in
    split_sides (width (col_of s) mask) (width (row_of s) mask) (width (layer_of s) mask)
    (width (col_of s) one) (width (row_of s) one) (width (layer_of s) one)
    (width (col_of s) other) (width (row_of s) other) (width (layer_of s) other)
    floors.along_x floors.along_y floors.via
    (width-parts (col_of s) terminals one other mask n (col_of s v) parts.shared)
    (width-parts (row_of s) terminals one other mask n (row_of s v) parts.shared)
    (width-parts (layer_of s) terminals one other mask n (layer_of s v) parts.shared)

none_wide : (a b d x y z : ℕ) → a ≡ 0 → b ≡ 0 → d ≡ 0 → a * x + b * y + d * z ≡ 0
none_wide a b d x y z no_col no_row no_layer = rw (no_col, no_row, no_layer) (omega arith)

-- columns, rows and layers fit their numbers
pub fits : (s : Size) (v : ℕ) → IsVertex s v → (col_of s v < 2 ^ 32) × (row_of s v < 2 ^ 32) × (layer_of s v < 2 ^ 32)
fits s v vertex =
    let at = place_at-inside s v vertex in
    let few = sides_within (cols s) (rows s) (layers s) s.within.has_col s.within.has_row s.within.has_layer in (
      omega (arith, at.0, few, s.within.has_row, s.within.has_layer, s.within.vertex_limit),
      omega (arith, at.1, few, s.within.has_col, s.within.has_layer, s.within.vertex_limit),
      omega (arith, at.2, few, s.within.has_col, s.within.has_row, s.within.vertex_limit),
    )

-- a box of one terminal reaches nowhere from it
pub box-single : (s : Size) (floors : Floors) (terminals : List Vertex) (place : ℕ) (v : Vertex) → At terminals place v → IsVertex s v.0 → box_low s floors terminals (single place) v.0 ≡ 0
box-single s floors terminals place v at vertex =
    let n = length terminals in
    let inside = slice_get_within terminals place v at in
    let is : (get_or terminals place none).0 ≡ v.0 = ap (λ (x : Vertex). x.0) (get_or_from_slice_get terminals place v none at) in
    let small = fits s v.0 vertex in
    let width : (ℕ → ℕ) → ℕ = λ f. width_with (extent_of f terminals (single place) n) (f v.0) in
    none_wide (width (col_of s)) (width (row_of s)) (width (layer_of s)) floors.along_x floors.along_y floors.via
    (width-single (col_of s) terminals place n (col_of s v.0) inside (ap (col_of s) is) small.0)
    (width-single (row_of s) terminals place n (row_of s v.0) inside (ap (row_of s) is) small.1)
    (width-single (layer_of s) terminals place n (layer_of s v.0) inside (ap (layer_of s) is) small.2)

-- the boxes are a family
pub box-family : (s : Size) (floors : Floors) (pieces : List (Piece × ℕ)) (terminals : List Vertex) → AreFloors floors pieces → All (λ (v : Vertex). IsVertex s v.0) terminals →
    IsFamily s pieces terminals (box_low s floors terminals)
box-family s floors pieces terminals are vertices = record {
  own = λ place v at below. box-single s floors terminals place v at
      (subst (λ (x : Vertex). IsVertex s x.0) (get_or_from_slice_get terminals place v none at) (vertices place none (slice_get_within terminals place v at)));
  steps = λ mask some below. box-slow s floors (box_of s terminals mask) pieces are;
  splits = λ one other mask v parts below vertex. box-parts s floors terminals one other mask v parts;
}

-- ---- boxes terminal by terminal

pub box_none : (s : Size) (terminals : List Vertex) (mask : ℕ) → first_box s terminals mask 0 ≡ no_box
box_none s terminals mask = rw (extent_none (col_of s) terminals mask, extent_none (row_of s) terminals mask, extent_none (layer_of s) terminals mask) refl

pub box_taken : (s : Size) (terminals : List Vertex) (mask n : ℕ) → (bit mask n == 1) ≡ true → first_box s terminals mask (n + 1) ≡ with_place (first_box s terminals mask n) (place_at s (get_or terminals n none).0)
box_taken s terminals mask n has = rw (extent_taken (col_of s) terminals mask n has, extent_taken (row_of s) terminals mask n has, extent_taken (layer_of s) terminals mask n has) refl

pub box_passed : (s : Size) (terminals : List Vertex) (mask n : ℕ) → (bit mask n == 1) ≡ false → first_box s terminals mask (n + 1) ≡ first_box s terminals mask n
box_passed s terminals mask n has = rw (extent_passed (col_of s) terminals mask n has, extent_passed (row_of s) terminals mask n has, extent_passed (layer_of s) terminals mask n has) refl

-- ---- limits

-- a box of terminals doesn't reach beyond the grid
pub box-inside : (s : Size) (terminals : List Vertex) (mask : ℕ) → All (λ (v : Vertex). IsVertex s v.0) terminals → IsBoxIn s (box_of s terminals mask)
box-inside s terminals mask vertices = record {
  in_cols = highest-below (col_of s) terminals mask (length terminals) (cols s) s.within.has_col (λ k below. (place_at-inside s (get_or terminals k none).0 (vertices k none below)).0);
  in_rows = highest-below (row_of s) terminals mask (length terminals) (rows s) s.within.has_row (λ k below. (place_at-inside s (get_or terminals k none).0 (vertices k none below)).1);
  in_layers = highest-below (layer_of s) terminals mask (length terminals) (layers s) s.within.has_layer (λ k below. (place_at-inside s (get_or terminals k none).0 (vertices k none below)).2);
}

-- what it reaches is within the limit of bounds
pub box-limit : (s : Size) (floors : Floors) (box : TerminalBox) (place : Place) (in_cols in_rows in_layers : ℕ) → AreWithin floors → IsBoxIn s box → IsInside s place →
    in_cols ≡ width_with box.cols place.col → in_rows ≡ width_with box.rows place.row → in_layers ≡ width_with box.layers place.layer →
    in_cols * floors.along_x + in_rows * floors.along_y + in_layers * floors.via ≤ 2 ^ 61
box-limit s floors box place in_cols in_rows in_layers within inside at is_cols is_rows is_layers =
    let few : in_cols + in_rows + in_layers ≤ max_vertices =
    omega (arith, at.0, at.1, at.2, inside.in_cols, inside.in_rows, inside.in_layers, sides_within (cols s) (rows s) (layers s) s.within.has_col s.within.has_row s.within.has_layer, s.within.vertex_limit) in
    let sum = sum_within in_cols in_rows in_layers floors.along_x floors.along_y floors.via max_weight within.x within.y within.vias in
    omega (arith, sum, mul-le (in_cols + in_rows + in_layers) max_weight max_vertices max_weight few (omega arith))

-- five terminals have few masks
pub few_masks_all : (count : ℕ) → count ≤ 5 → 2 ^ count ≤ 2 ^ 5
few_masks_all count few = pow-le-pow_right {n = 2} (omega arith) few

-- two terminals have some
pub some_masks_all : (count : ℕ) → 2 ≤ count → 2 ^ 2 ≤ 2 ^ count
some_masks_all count two = pow-le-pow_right {n = 2} (omega arith) two

-- a box reaches over few layers
pub few_layers : (s : Size) (terminals : List Vertex) (mask layer : ℕ) → All (λ (v : Vertex). IsVertex s v.0) terminals → layer < layers s → width_with (box_of s terminals mask).layers layer < 16
few_layers s terminals mask layer vertices inside =
    let at = (box-inside s terminals mask vertices).in_layers in omega (arith, at, inside, s.within.layer_limit)

pub layers_within : (width via : ℕ) → width < 16 → via ≤ max_weight → width * via ≤ 2 ^ 42
layers_within width via few low = omega (arith, mul-le width via 16 max_weight (omega arith) low)
