-- What is drawn for a generated design keeps its limits.
use Rattle.std.proofs.Common.{◌≡◌, ℕ, zero, suc, ◌+◌, ◌-◌, ◌*◌, ◌%◌, ◌<◌, ◌≤◌, ◌^◌, length, All, refl, arith}
use Rattle.std.specs.Prelude.{map}
use Rattle.std.specs.List.{range_with_len}
use Rattle.std.proofs.lemmas.List.Elements.{All-map}
use Rattle.std.proofs.lemmas.List.FromFn.{length-map-range_with_len}
use Rattle.std.proofs.lemmas.Nat.{mod_below, mul-le}
use Rattle.gr_make.specs.declared.shape.Shape.{Shape}
use Rattle.gr_make.specs.MadeAdjustments.{made_adjustment, adjustment_count, made_adjustments}
use Rattle.gr_make.specs.MadeNets.{tile_side, pin_count, made_pin, made_pins, made_net, net_words, made_nets}
use Rattle.gr_make.specs.RandomWords.{random_word}
use Rattle.gr_make.specs.Shapes.{IsShape}
use Rattle.made_designs.proofs.Adjusting.{IsMadeAdjustment}
use Rattle.made_designs.proofs.Layers.{All-each}
use Rattle.made_designs.proofs.Nets.{HasPinsOnGrid, AreNumberedFrom}
use Rattle.made_designs.proofs.Pins.{IsOnGrid}

pin_on_grid : (seed : ℕ) (shape : Shape) (place : ℕ) → IsShape shape → IsOnGrid shape (made_pin seed shape place)
pin_on_grid seed shape place is =
    let across : 0 < tile_side * shape.cols = omega (arith, is.some_cols) in
    let along : 0 < tile_side * shape.rows = omega (arith, is.some_rows) in
    record { x = mod_below (random_word seed place) (tile_side * shape.cols) across; y = mod_below (random_word seed (place + 1)) (tile_side * shape.rows) along }

pins_on_grid : (seed : ℕ) (shape : Shape) (place count : ℕ) → IsShape shape → All (IsOnGrid shape) (made_pins seed shape place count)
pins_on_grid seed shape place count is =
    All-map (IsOnGrid shape) (λ i. made_pin seed shape (place + 2 * i)) (range_with_len 0 count)
    (All-each (λ i. IsOnGrid shape (made_pin seed shape (place + 2 * i))) (λ i. pin_on_grid seed shape (place + 2 * i) is) (range_with_len 0 count))

net_on_grid : (seed : ℕ) (shape : Shape) (place number : ℕ) → IsShape shape → HasPinsOnGrid shape (made_net seed shape place number)
net_on_grid seed shape place number is =
    let count = pin_count seed place in
    let long : length (made_pins seed shape (place + 1) count) ≡ count = length-map-range_with_len (λ i. made_pin seed shape (place + 1 + 2 * i)) 0 count in
    let few : random_word seed place % 6 < 6 = mod_below (random_word seed place) 6 (omega arith) in
    record { few = omega (arith, long, few); inside = pins_on_grid seed shape (place + 1) count is }

nets_from : (seed : ℕ) (shape : Shape) → IsShape shape → (first count : ℕ) → AreNumberedFrom shape first (map (λ k. made_net seed shape (net_words seed k) k) (range_with_len first count))
nets_from seed shape is first zero = tt
nets_from seed shape is first (suc count) = (refl, net_on_grid seed shape (net_words seed first) first is, nets_from seed shape is (first + 1) count)

-- the nets are numbered from 0 on, and their pins are on the grid
pub nets_numbered : (seed : ℕ) (shape : Shape) → IsShape shape → AreNumberedFrom shape 0 (made_nets seed shape)
nets_numbered seed shape is = nets_from seed shape is 0 shape.nets

-- there are as many as the shape says
pub length-made_nets : (seed : ℕ) (shape : Shape) → length (made_nets seed shape) ≡ shape.nets
length-made_nets seed shape = length-map-range_with_len (λ k. made_net seed shape (net_words seed k) k) 0 shape.nets

adjustment_fits : (seed : ℕ) (shape : Shape) (place : ℕ) → IsShape shape → IsMadeAdjustment shape (made_adjustment seed shape place)
adjustment_fits seed shape place is =
    let across : 0 < shape.cols - 1 = omega (arith, is.some_cols) in
    let along : 0 < shape.rows = omega (arith, is.some_rows) in
    record {
      col = omega (arith, mod_below (random_word seed place) (shape.cols - 1) across);
      row = mod_below (random_word seed (place + 1)) shape.rows along;
      level = mod_below (random_word seed (place + 2)) 8 (omega arith);
    }

-- each adjustment is of an edge of the grid
pub adjustments_fit : (seed : ℕ) (shape : Shape) → IsShape shape → All (IsMadeAdjustment shape) (made_adjustments seed shape)
adjustments_fit seed shape is =
    let made = λ (i : ℕ). made_adjustment seed shape (net_words seed shape.nets + 3 * i) in
    let numbers = range_with_len 0 (adjustment_count shape) in
    All-map (IsMadeAdjustment shape) made numbers
    (All-each (λ i. IsMadeAdjustment shape (made i)) (λ i. adjustment_fits seed shape (net_words seed shape.nets + 3 * i) is) numbers)

-- there are as many as are announced
pub length-made_adjustments : (seed : ℕ) (shape : Shape) → length (made_adjustments seed shape) ≡ adjustment_count shape
length-made_adjustments seed shape = length-map-range_with_len (λ i. made_adjustment seed shape (net_words seed shape.nets + 3 * i)) 0 (adjustment_count shape)

-- and they are few
pub few_adjustments : (shape : Shape) → IsShape shape → adjustment_count shape ≤ 2 ^ 16
few_adjustments shape is = omega (arith, mul-le shape.cols shape.rows 1024 1024 is.few_cols is.few_rows)
