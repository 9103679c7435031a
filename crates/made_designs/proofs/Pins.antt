-- Reading the pins of a generated net.
use Rattle.std.proofs.Common.{◌≡◌, ℕ, ◌*◌, ◌/◌, ◌<◌, false, List, ◌++◌, length, All, refl, arith, lt-ltb, pos, ◌-ℤ◌, nat_abs}
use Rattle.std.specs.Prelude.{map, flat_map, int_lt, Some}
use Rattle.std.proofs.lemmas.Bool.Decides.{nat_tests}
use Rattle.std.proofs.lemmas.Int.{ints}
use Rattle.text_scan.specs.Reading.{Reading}
use Rattle.gr_make.specs.declared.shape.Shape.{Shape}
use Rattle.gr_make.specs.MadeNets.{tile_side}
use Rattle.gr_make.specs.MadeText.{pin_line}
use Rattle.gr_make.specs.Shapes.{IsShape}
use Rattle.ispd_reader.specs.Nets.{tile_along, pin_at, pins_at}
use Rattle.text_scan.proofs.Ranges.{within_is}
use Rattle.made_designs.specs.MadeContents.{made_header, pin_vertex}
use Rattle.made_designs.proofs.LineWords.{words_left}
use Rattle.made_designs.proofs.Parts.{parts_read}
use Rattle.made_designs.proofs.Tokens.{Reads, reads-then, number_read}

-- the pin lies on the grid
pub record IsOnGrid (shape : Shape) (pin : ℕ × ℕ) : Type 0 where
  pub x : pin.0 < tile_side * shape.cols
  pub y : pin.1 < tile_side * shape.rows

-- the tile of a position on the grid
tile_made : (count x : ℕ) → x < tile_side * count → tile_along (pos 0) (pos tile_side) count (pos x) ≡ Some (x / tile_side)
unfolding tile_along
tile_made count x inside =
    let above : int_lt (pos x) (pos 0) ≡ false = grind (arith, nat_tests) in
    let whole : nat_abs (pos x -ℤ pos 0) ≡ x = omega (arith, ints) in
    let below : x < count * tile_side = omega (arith, inside) in
    rw (above, whole, lt-ltb x (count * tile_side) below) refl

-- a pin is read as the vertex of its tile
pin_read : (shape : Shape) → IsShape shape → (id : ℕ) (pin : ℕ × ℕ) → IsOnGrid shape pin → (i : ℕ) (r : Reading) (others : List (List ℕ)) → words_left r ≡ pin_line pin ++ others →
    Reads (pin_at (made_header shape) id i r) (pin_vertex shape pin) others
unfolding pin_at
pin_read shape is id pin on i r others here =
    reads-then _ (number_read pin.0 r _ (omega (arith, on.x, is.few_cols)) here).read (λ r1 here1.
    rw (tile_made shape.cols pin.0 on.x) (
    reads-then _ (number_read pin.1 r1 _ (omega (arith, on.y, is.few_rows)) here1).read (λ r2 here2.
    rw (tile_made shape.rows pin.1 on.y) (
    reads-then _ (number_read 1 r2 others (omega arith) here2).read (λ r3 here3.
    record { after = r3; reads = rw (within_is 1 shape.layers 1 (omega arith) (omega (arith, is.some_layers))) refl; leaves = here3 })))))

-- all pins of a net are read
pub pins_read : (shape : Shape) → IsShape shape → (id : ℕ) (pins : List (ℕ × ℕ)) → All (IsOnGrid shape) pins → (r : Reading) (others : List (List ℕ)) → words_left r ≡ flat_map pin_line pins ++ others →
    Reads (pins_at (made_header shape) id (length pins) r) (map (pin_vertex shape) pins) others
unfolding pins_at
pins_read shape is id pins on r others here =
    parts_read (pin_at (made_header shape) id) (IsOnGrid shape) pin_line (pin_vertex shape) (λ pin fits. pin_read shape is id pin fits) pins on 0 r others here
