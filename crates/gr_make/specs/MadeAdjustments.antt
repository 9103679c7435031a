-- The adjustments of a generated design, drawn from the words of the seed behind those of the nets. They are of edges
-- along x on the first layer.
use Rattle.std.specs.Prelude.{ℕ, ◌+◌, ◌-◌, ◌*◌, ◌/◌, ◌%◌, List, map}
use Rattle.std.specs.List.{range_with_len}
use Rattle.gr_make.specs.declared.shape.Shape.{Shape}
use Rattle.gr_make.specs.RandomWords.{random_word}
use Rattle.gr_make.specs.MadeNets.{net_words}

-- an adjustment: column and row of the tile from which the edge goes to the next column, and the edge's new capacity
pub record MadeAdjustment : Type 0 where
  pub col : ℕ
  pub row : ℕ
  pub level : ℕ

-- the adjustment of three words
abbrev pub made_adjustment : ℕ → Shape → ℕ → MadeAdjustment
made_adjustment seed shape place = record {
  col = random_word seed place % (shape.cols - 1);
  row = random_word seed (place + 1) % shape.rows;
  level = random_word seed (place + 2) % 8;
}

-- how many adjustments there are: one for each 16 tiles of a layer
abbrev pub adjustment_count : Shape → ℕ
adjustment_count shape = shape.cols * shape.rows / 16

-- all adjustments
abbrev pub made_adjustments : ℕ → Shape → List MadeAdjustment
made_adjustments seed shape =
    map (λ i. made_adjustment seed shape (net_words seed shape.nets + 3 * i)) (range_with_len 0 (adjustment_count shape))
