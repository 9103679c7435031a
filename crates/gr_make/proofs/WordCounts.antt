-- How many words are drawn at most.
use Rattle.std.proofs.Common.{ℕ, zero, suc, ◌*◌, ◌^◌, ◌%◌, ◌<◌, ◌≤◌, lit<, arith}
use Rattle.std.proofs.Math.Nat.{mod-lt, mul-le-mul, div-le_self}
use Rattle.gr_make.specs.declared.shape.Shape.{Shape}
use Rattle.gr_make.specs.MadeAdjustments.{adjustment_count}
use Rattle.gr_make.specs.MadeNets.{pin_count, net_words}
use Rattle.gr_make.specs.RandomWords.{random_word}
use Rattle.gr_make.specs.Shapes.{IsShape}

-- a net has at most seven pins
pub pin_count-few : (seed place : ℕ) → pin_count seed place ≤ 7
pin_count-few seed place =
    let below : random_word seed place % 6 < 6 = mod-lt (random_word seed place) (lit< tt) in
    omega (arith, below)

-- a net has one word, and two for each of at most seven pins
pub net_words-few : (seed nets : ℕ) → net_words seed nets ≤ 15 * nets
net_words-few seed zero = omega (arith)
net_words-few seed (suc nets) =
    let before = net_words-few seed nets in
    let pins = pin_count-few seed (net_words seed nets) in
    omega (arith, before, pins)

-- there are no more adjustments than tiles of the largest layer
pub adjustment_count-few : (shape : Shape) → IsShape shape → adjustment_count shape ≤ 2 ^ 20
adjustment_count-few shape is =
    let few = div-le_self (shape.cols * shape.rows) 16 in
    let tiles = mul-le-mul is.few_cols is.few_rows in
    omega (arith, few, tiles)
