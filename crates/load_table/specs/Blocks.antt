-- Words that are loaded as a block.
use Rattle.std.specs.Prelude.{ℕ, ◌≡◌, ◌≤◌, ◌<◌, ◌+◌, List, length, slice_index}

-- so many words are a block
abbrev pub block_len : ℕ
block_len = 8

-- the values of so many words from one on were put in a list, and nothing else was
pub record ArePut (first count : ℕ) (values old new : List ℕ) : Type 0 where
  pub long : length new ≡ length old
  pub before : (w : ℕ) → w < first → slice_index new w ≡ slice_index old w
  pub here : (k : ℕ) → k < count → slice_index new (first + k) ≡ slice_index values k
  pub behind : (w : ℕ) → first + count ≤ w → slice_index new w ≡ slice_index old w
