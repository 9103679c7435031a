-- The tiles that borders belong to.
use Rattle.std.proofs.Common.{◌≡◌, ℕ, ◌+◌, ◌*◌, ◌/◌, ◌%◌, ◌<◌, ◌≤◌, ◌⊎◌, sym, ap, ◌∙◌, arith, ⊎_elim, ℤ, pos, ◌-ℤ◌, ◌≤ℤ◌, nat_abs}
use Rattle.std.proofs.Math.Nat.{mul-div_cancel}
use Rattle.std.proofs.lemmas.Int.{ints}
use Rattle.std.proofs.lemmas.Nat.{mod-mul-add, div-add-mod'}
use Rattle.grid_base.specs.Numbers.{cols, rows}
use Rattle.grid_graph.specs.declared.grid.Grid.{Grid}
use Rattle.grid_graph.specs.Grids.{size_of, layout_of}
use Rattle.grid_graph.specs.Layouts.{IsTileSize}
use Rattle.guide_text.specs.declared.rect.Rect.{Rect}
use Rattle.guide_text.specs.declared.tile_rect.TileRect.{TileRect}
use Rattle.guide_text.specs.Borderlines.{border, LieBetween}
use Rattle.guide_text.specs.Covering.{ConsistsOf}

-- two borders are one only where they are that of one tile
pub same_index : (origin tile : ℤ) (i j : ℕ) → pos 1 ≤ℤ tile → border origin tile i ≡ border origin tile j → i ≡ j
same_index origin tile i j some same =
    let w = nat_abs tile in
    let wide : 0 < w = omega (arith, ints, some) in
    let product : i * w ≡ j * w = omega (arith, ints, same) in
    sym (mul-div_cancel i wide) ∙ ap (λ n. n / w) product ∙ mul-div_cancel j wide

-- how far a border is from the origin can be divided by the size of a tile
pub offset_divides : (origin tile at : ℤ) (index : ℕ) → IsTileSize tile → border origin tile index ≡ at → nat_abs (at -ℤ origin) % nat_abs tile ≡ 0
offset_divides origin tile at index is same =
    let w = nat_abs tile in
    let wide : 0 < w = omega (arith, ints, is.low) in
    let far : nat_abs (at -ℤ origin) ≡ index * w + 0 = omega (arith, ints, same) in
    ap (λ n. n % w) far ∙ mod-mul-add index w 0 wide

-- and where it can, what is so far above the origin is a border
pub border_at_offset : (origin tile at : ℤ) → origin ≤ℤ at → nat_abs (at -ℤ origin) % nat_abs tile ≡ 0 → border origin tile (nat_abs (at -ℤ origin) / nat_abs tile) ≡ at
border_at_offset origin tile at above divides =
    let whole = div-add-mod' (nat_abs (at -ℤ origin)) (nat_abs tile) in
    omega (arith, ints, above, whole, divides)

-- no tiles lie between two borders that are in the wrong order, or the upper one of which is behind the last tile
pub none_between : (origin tile from to : ℤ) (count first end : ℕ) → IsTileSize tile → border origin tile first ≡ from → border origin tile end ≡ to → (end ≤ first) ⊎ (count < end)
    → (f l : ℕ) → ¬ LieBetween origin tile from to count f l
none_between origin tile from to count first end is lower upper wrong f l lie =
    let low : first ≡ f = same_index origin tile first f is.low (lower ∙ sym lie.lower) in
    let high : end ≡ l + 1 = same_index origin tile end (l + 1) is.low (upper ∙ sym lie.upper) in
    ⊎_elim (λ (order : end ≤ first). omega (arith, order, low, high, lie.order)) (λ (past : count < end). omega (arith, past, high, lie.within)) wrong

-- the tiles of a rectangle lie between its left and its right border, and between its lower and its upper one
pub cols_between : (g : Grid) (rect : Rect) (tiles : TileRect) → ConsistsOf g rect tiles → LieBetween (layout_of g).origin.0 (layout_of g).tile.0 rect.x1 rect.x2 (cols (size_of g)) tiles.first_col tiles.last_col
cols_between g rect tiles is = record { order = is.0.col_order; within = is.0.in_cols; lower = sym (ap (λ (r : Rect). r.x1) is.1); upper = sym (ap (λ (r : Rect). r.x2) is.1) }

pub rows_between : (g : Grid) (rect : Rect) (tiles : TileRect) → ConsistsOf g rect tiles → LieBetween (layout_of g).origin.1 (layout_of g).tile.1 rect.y1 rect.y2 (rows (size_of g)) tiles.first_row tiles.last_row
rows_between g rect tiles is = record { order = is.0.row_order; within = is.0.in_rows; lower = sym (ap (λ (r : Rect). r.y1) is.1); upper = sym (ap (λ (r : Rect). r.y2) is.1) }

-- a rectangle that names a layer of the grid
pub names_layer : (g : Grid) (rect : Rect) (tiles : TileRect) → ConsistsOf g rect tiles → rect.layer ≡ pos (tiles.layer + 1)
names_layer g rect tiles is = ap (λ (r : Rect). r.layer) is.1
