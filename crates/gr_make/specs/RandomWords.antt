-- The random words that a design is drawn from, and how many of them were drawn.
use Rattle.std.specs.Prelude.{ℕ, ◌^◌}
use Rattle.seed_streams.specs.SeedWords.{seed_word}

-- the number of the seed's stream: the first above all positions of nets, whose picks have streams of their own
abbrev pub design_stream : ℕ
design_stream = 2 ^ 32

-- the word at a place of the stream
abbrev pub random_word : ℕ → ℕ → ℕ
random_word seed place = seed_word seed design_stream place

-- a seed, and how many of its words were drawn
pub record Drawn : Type 0 where
  pub seed : ℕ
  pub count : ℕ
