-- Lower bounds by distances from terminals.
use Rattle.std.specs.Prelude.{ℕ, zero, suc, ◌+◌, ◌==◌, cond, max, List}
use Rattle.grid_base.specs.declared.vertex.Vertex.{Vertex}
use Rattle.steiner_tables.specs.LoneRows.{lone}
use Rattle.steiner_tables.specs.Masks.{bit}

-- a bound for a mask, raised to the distance from the terminal at a place, where the mask has it
abbrev pub raised_at : (ℕ → ℕ → ℕ) → ℕ → (ℕ → ℕ) → ℕ → ℕ → ℕ
raised_at low place distance mask v = cond (bit mask place == 1) (max (low mask v) (distance v)) (low mask v)

-- the bounds of a family, raised to what the rows of so many terminals from the first place on tell
unfoldable pub distance_low : List Vertex → (ℕ → ℕ → ℕ) → ℕ → (ℕ → ℕ → ℕ) → ℕ → ℕ → ℕ → ℕ → ℕ
distance_low terminals low limit number first zero mask v = low mask v
distance_low terminals low limit number first (suc n) mask v =
    raised_at (distance_low terminals low limit number first n) (first + n)
    (lone terminals low limit number (first + n)) mask v
