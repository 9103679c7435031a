-- How far a stream of words is drawn.
use Rattle.std.specs.Prelude.{ℕ}
use Rattle.rand_chacha.specs.ChaCha.{ChaCha, key_of}
use Rattle.seed_streams.specs.SeedWords.{key_bytes}

-- a stream of a seed, and how many of its words were drawn
pub record DrawnStream : Type 0 where
  pub seed : ℕ
  pub stream : ℕ
  pub count : ℕ

-- the generator of a stream of a seed, before the word at a place
abbrev pub generator_at : ℕ → ℕ → ℕ → ChaCha
generator_at seed stream place = record { key = key_of (key_bytes seed); stream = stream; word_pos = place }
