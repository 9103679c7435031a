-- Differences along lines.
use Rattle.std.specs.Prelude.{ℕ, ◌+◌, ◌*◌, ◌%◌, ◌^◌, ◌<◌, ◌≡◌, List, slice_index}
use Rattle.grid_base.specs.declared.size.Size.{Size}
use Rattle.grid_base.specs.Lines.{stride}
use Rattle.grid_base.specs.Numbers.{edge_axis, vertices}

-- by how much the number of an edge rises to that of the next one on its line
abbrev pub edge_stride : Size → ℕ → ℕ
edge_stride s e = 2 * stride (edge_axis e) s

-- from each edge number to the next one on its line the load rises by the difference there, and from nothing to the first one
-- on each line; all that in the numbers below 2^64, which wrap
pub record AreDifferences (s : Size) (load : ℕ → ℕ) (differences : List ℕ) : Type 0 where
  pub first : (e : ℕ) → e < 2 * vertices s → e < edge_stride s e → slice_index differences e ≡ load e % 2 ^ 64
  pub next : (e : ℕ) → e + edge_stride s e < 2 * vertices s
      → (load e + slice_index differences (e + edge_stride s e)) % 2 ^ 64 ≡ load (e + edge_stride s e) % 2 ^ 64
