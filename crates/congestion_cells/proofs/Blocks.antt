-- The tiles of a cell lie in the grid.
use Rattle.std.proofs.Common.{◌≡◌, ℕ, ◌+◌, ◌*◌, ◌/◌, ◌%◌, ◌^◌, ◌<◌, ◌≤◌, ⊎_elim, arith}
use Rattle.std.proofs.lemmas.Grind.{div_ceil_times}
use Rattle.std.proofs.lemmas.Bool.{cases_lt}
use Rattle.std.proofs.lemmas.Nat.{div_below, mod_below}
use Rattle.std.proofs.Math.Nat.{mul-le-mul, mul-le-mul_left, mul-le-mul_right}
use Rattle.grid_base.specs.declared.size.Size.{Size}
use Rattle.grid_base.specs.Numbers.{cols, layers, rows}
use Rattle.congestion_cells.specs.declared.raster.Raster.{Raster}
use Rattle.congestion_cells.specs.Rasters.{cell_tile, columns, parts_of, rows as map_rows, tiles_in}

-- a part begins inside
pub part_begins : (tiles side part : ℕ) → 0 < side → part < parts_of tiles side → part * side < tiles
part_begins tiles side part some below =
    let whole : (part + 1) * side ≤ parts_of tiles side * side = mul-le-mul_right side (omega (arith, below)) in
    omega (arith, whole, (div_ceil_times tiles side some).1)

-- there are no more parts than tiles
pub few_parts : (tiles side : ℕ) → 0 < side → parts_of tiles side ≤ tiles
few_parts tiles side some =
    ⊎_elim
    (λ (more : tiles < parts_of tiles side).
    let whole : (tiles + 1) * side ≤ parts_of tiles side * side = mul-le-mul_right side (omega (arith, more)) in
    let one : tiles * 1 ≤ tiles * side = mul-le-mul_left tiles some in
    omega (arith, whole, one, (div_ceil_times tiles side some).1))
    (λ (few : parts_of tiles side ≤ tiles). few)
    (cases_lt tiles (parts_of tiles side))

-- and has a tile, as many as its side at most, and none outside
pub part_within : (tiles side part : ℕ) → 0 < side → part < parts_of tiles side
    → (0 < tiles_in tiles side part) × (part * side + tiles_in tiles side part ≤ tiles)
part_within tiles side part some below =
    let begins = part_begins tiles side part some below in
    (omega (arith, begins, some), omega (arith, begins))

-- the j-th tile of a cell is in both parts
pub tile_within : (wide high j : ℕ) → 0 < wide → j < wide * high → (j % wide < wide) × (j / wide < high)
tile_within wide high j some below =
    (mod_below j wide some, div_below j wide high some (omega (arith, below)))

-- a place in a grid of so many columns and rows has a number below those of all tiles
pub place_below : (cols rows col row : ℕ) → col < cols → row < rows → row * cols + col < cols * rows
place_below cols rows col row in_cols in_rows =
    let whole : (row + 1) * cols ≤ rows * cols = mul-le-mul_right cols (omega (arith, in_rows)) in
    omega (arith, whole, in_cols)

-- a grid has no more tiles than vertices
pub few_tiles : (s : Size) → cols s * rows s ≤ 2 ^ 23
few_tiles s =
    let whole : cols s * rows s * 1 ≤ cols s * rows s * layers s = mul-le-mul_left (cols s * rows s) s.within.has_layer in
    omega (arith, whole, s.within.vertex_limit)

-- the tiles of a cell are fewer than those of the grid
pub few_in_cell : (s : Size) (wide high : ℕ) → wide ≤ cols s → high ≤ rows s → wide * high ≤ 2 ^ 23
few_in_cell s wide high in_cols in_rows = omega (arith, mul-le-mul in_cols in_rows, few_tiles s)

-- the j-th tile of a cell, as its number is reckoned
pub tile_number : (r : Raster) (column row j wide across : ℕ) → wide ≡ tiles_in (cols r.size) r.side column → across ≡ cols r.size
    → (row * r.side + j / wide) * across + (column * r.side + j % wide) ≡ cell_tile r column row j
tile_number r column row j wide across is all = rw (is, all) (omega arith)

-- it is a tile of the grid
pub tile_below : (r : Raster) (column row j wide high across : ℕ) → column < columns r → row < map_rows r
    → wide ≡ tiles_in (cols r.size) r.side column → high ≡ tiles_in (rows r.size) r.side row → across ≡ cols r.size → j < wide * high
    → (row * r.side + j / wide) * across + (column * r.side + j % wide) < cols r.size * rows r.size
tile_below r column row j wide high across in_columns in_rows is_wide is_high is_across below =
    let over = part_within (cols r.size) r.side column r.some in_columns in
    let up = part_within (rows r.size) r.side row r.some in_rows in
    let at = tile_within wide high j (omega (arith, is_wide, over.0)) below in
    rw is_across (place_below (cols r.size) (rows r.size) (column * r.side + j % wide) (row * r.side + j / wide)
    (omega (arith, is_wide, over.1, at.0)) (omega (arith, is_high, up.1, at.1)))
