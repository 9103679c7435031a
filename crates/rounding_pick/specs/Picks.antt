-- Picks: which phase's set a net keeps, drawn from a stream of its own, as randomised rounding draws (Raghavan and Thompson,
-- "Randomized rounding", 1987).
use Rattle.std.specs.Prelude.{ℕ, ◌%◌}
use Rattle.seed_streams.specs.SeedWords.{seed_word}

-- the phase that is picked for the net at a position: the first word of the stream of that number
abbrev pub pick : ℕ → ℕ → ℕ → ℕ
pick seed position phases = seed_word seed position 0 % phases
