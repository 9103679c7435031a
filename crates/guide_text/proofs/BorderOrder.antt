-- Borders between tiles.
use Rattle.std.proofs.Common.{◌≡◌, ℕ, ◌+◌, ◌<◌, ◌≤◌, Bool, leb, ap, subst, ◌∙◌, arith, ℤ, pos, neg_ℤ, ◌+ℤ◌, ◌-ℤ◌, ◌≤ℤ◌, to_z, of_z, w64, nat_abs}
use Rattle.std.specs.Prelude.{◌↔◌, IsTrue}
use Rattle.std.proofs.lemmas.Bool.{leb-true, le-leb}
use Rattle.std.proofs.Math.Nat.{mul-le-mul_right}
use Rattle.std.proofs.lemmas.Int.{ints}
use Rattle.grid_base.specs.declared.size.Size.{Size}
use Rattle.grid_base.specs.Numbers.{cols, rows, layers}
use Rattle.grid_graph.specs.declared.grid.Grid.{Grid}
use Rattle.grid_graph.specs.Borders.{HasBordersInRange}
use Rattle.grid_graph.specs.Grids.{size_of, layout_of}
use Rattle.grid_graph.specs.Layouts.{IsPosition, IsTileSize}
use Rattle.grid_graph.specs.Limits.{max_number}
use Rattle.guide_text.specs.declared.tile_rect.TileRect.{TileRect}
use Rattle.guide_text.specs.Borderlines.{border}
use Rattle.guide_text.specs.Covering.{AreWholeTiles}

-- a border before one that is near is near
pub border_before : (origin tile limit : ℤ) (index count : ℕ) → index ≤ count → border origin tile count ≤ℤ limit → border origin tile index ≤ℤ limit
border_before origin tile limit index count before near = omega (arith, ints, near, mul-le-mul_right (nat_abs tile) before)

-- the room behind an origin, up to the limit, is as long as what may stand there
pub near_by_room : (origin : ℤ) (m : ℕ) → IsPosition origin → IsTrue (leb m (nat_abs (pos max_number -ℤ origin))) ↔ ((origin +ℤ pos m) ≤ℤ pos max_number)
near_by_room origin m at = (
  λ h. let fits = leb-true m (nat_abs (pos max_number -ℤ origin)) h in omega (arith, ints, fits, at.low, at.high),
  λ near. le-leb m (nat_abs (pos max_number -ℤ origin)) (omega (arith, ints, near, at.low, at.high)),
)

-- the limit less a position is a number of 64 bits
pub room_fits : (origin : ℤ) → IsPosition origin → to_z w64 (of_z w64 (pos max_number -ℤ to_z w64 (of_z w64 origin))) ≡ pos max_number -ℤ origin
room_fits origin at = omega (arith, ints, at.low, at.high)

pub tile_fits : (tile : ℤ) → IsTileSize tile → to_z w64 (of_z w64 tile) ≡ tile
tile_fits tile is = omega (arith, ints, is.low, is.high)

-- whole tiles of a near grid have near borders
pub columns_are_near : (g : Grid) (tiles : TileRect) → HasBordersInRange g → AreWholeTiles (size_of g) tiles → (border (layout_of g).origin.0 (layout_of g).tile.0 (tiles.last_col + 1) ≤ℤ pos max_number) × (border (layout_of g).origin.0 (layout_of g).tile.0 tiles.first_col ≤ℤ pos max_number)
columns_are_near g tiles near whole =
    let to = border_before (layout_of g).origin.0 (layout_of g).tile.0 (pos max_number) in (
      to (tiles.last_col + 1) (cols (size_of g)) (omega (arith, whole.in_cols)) near.right,
      to tiles.first_col (cols (size_of g)) (omega (arith, whole.in_cols, whole.col_order)) near.right,
    )

pub rows_are_near : (g : Grid) (tiles : TileRect) → HasBordersInRange g → AreWholeTiles (size_of g) tiles → (border (layout_of g).origin.1 (layout_of g).tile.1 (tiles.last_row + 1) ≤ℤ pos max_number) × (border (layout_of g).origin.1 (layout_of g).tile.1 tiles.first_row ≤ℤ pos max_number)
rows_are_near g tiles near whole =
    let to = border_before (layout_of g).origin.1 (layout_of g).tile.1 (pos max_number) in (
      to (tiles.last_row + 1) (rows (size_of g)) (omega (arith, whole.in_rows)) near.upper,
      to tiles.first_row (rows (size_of g)) (omega (arith, whole.in_rows, whole.row_order)) near.upper,
    )

pub origin_fits : (origin : ℤ) → IsPosition origin → to_z w64 (of_z w64 origin) ≡ origin
origin_fits origin at = omega (arith, ints, at.low, at.high)

-- numbers of 64 bits between a grid and what is asked of it change nothing
pub border_read : (o t origin tile : ℤ) (index : ℕ) → o ≡ origin → t ≡ tile → IsPosition origin → IsTileSize tile → border (to_z w64 (of_z w64 o)) (to_z w64 (of_z w64 t)) index ≡ border origin tile index
border_read o t origin tile index same also at is =
    let one = ap (λ z. to_z w64 (of_z w64 z)) same ∙ origin_fits origin at in
    let other = ap (λ z. to_z w64 (of_z w64 z)) also ∙ tile_fits tile is in
    λ i. border (one i) (other i) index

pub border_written : (found o t origin tile : ℤ) (index : ℕ) → found ≡ border (to_z w64 (of_z w64 o)) (to_z w64 (of_z w64 t)) index → o ≡ origin → t ≡ tile → IsPosition origin → IsTileSize tile
    → border origin tile index ≤ℤ pos max_number → to_z w64 (of_z w64 found) ≡ border origin tile index
border_written found o t origin tile index is_found same also at is near =
    ap (λ z. to_z w64 (of_z w64 z)) (is_found ∙ border_read o t origin tile index same also at is) ∙ border_fits (border origin tile index) (omega (arith, ints, at.low)) near
  where
    border_fits : (z : ℤ) → neg_ℤ (pos max_number) ≤ℤ z → z ≤ℤ pos max_number → to_z w64 (of_z w64 z) ≡ z
    border_fits z low high = omega (arith, ints, low, high)

-- a test of a number of columns is one of the right border, and one of a number of rows one of the upper border
pub near_along_x : (g : Grid) (o t : ℤ) (count : ℕ) (answer : Bool) → o ≡ (layout_of g).origin.0 → t ≡ (layout_of g).tile.0 → count ≡ cols (size_of g) → IsTrue answer ↔ (border (to_z w64 (of_z w64 o)) (to_z w64 (of_z w64 t)) count ≤ℤ pos max_number)
    → IsTrue answer ↔ (border (layout_of g).origin.0 (layout_of g).tile.0 (cols (size_of g)) ≤ℤ pos max_number)
near_along_x g o t count answer same also all told =
    let read = border_read o t (layout_of g).origin.0 (layout_of g).tile.0 count same also g.limits.left g.limits.tile_width ∙ ap (border (layout_of g).origin.0 (layout_of g).tile.0) all in
    subst (λ z. IsTrue answer ↔ (z ≤ℤ pos max_number)) read told

pub near_along_y : (g : Grid) (o t : ℤ) (count : ℕ) (answer : Bool) → o ≡ (layout_of g).origin.1 → t ≡ (layout_of g).tile.1 → count ≡ rows (size_of g) → IsTrue answer ↔ (border (to_z w64 (of_z w64 o)) (to_z w64 (of_z w64 t)) count ≤ℤ pos max_number)
    → IsTrue answer ↔ (border (layout_of g).origin.1 (layout_of g).tile.1 (rows (size_of g)) ≤ℤ pos max_number)
near_along_y g o t count answer same also all told =
    let read = border_read o t (layout_of g).origin.1 (layout_of g).tile.1 count same also g.limits.lower g.limits.tile_height ∙ ap (border (layout_of g).origin.1 (layout_of g).tile.1) all in
    subst (λ z. IsTrue answer ↔ (z ≤ℤ pos max_number)) read told

pub layer_fits : (s : Size) (layer : ℕ) → layer < layers s → to_z w64 (of_z w64 (pos (layer + 1))) ≡ pos (layer + 1)
layer_fits s layer within = omega (arith, ints, within, s.within.layer_limit)
