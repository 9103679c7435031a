-- Numbers of vertices.
use Rattle.std.specs.Prelude.{ℕ, ◌^◌, ◌-◌}

-- the greatest number: a set of least weight has fewer pieces than a grid has vertices, so it weighs at most (2^23 - 1) * 2^38
abbrev pub most : ℕ
most = 2 ^ 61 - 1

-- stands for the number of a vertex that has none, above all others
abbrev pub far : ℕ
far = 2 ^ 61

-- no key of a search is greater: a number, and what is still to go at least
abbrev pub max_key : ℕ
max_key = 2 ^ 62
