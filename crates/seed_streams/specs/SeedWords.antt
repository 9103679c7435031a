-- The random words of a seed. They are those of ChaCha with eight rounds (Bernstein, "ChaCha, a variant of Salsa20", 2008),
-- whose streams have a number of 64 bits.
use Rattle.std.specs.Prelude.{ℕ, ◌^◌, List, ◌++◌, replicate}
use Rattle.std.specs.Int.{w64, to_le_bytes}
use Rattle.rand_chacha.specs.ChaCha.{word_at, key_of}

-- eight rounds are four double rounds
abbrev pub double_rounds : ℕ
double_rounds = 4

-- the key's bytes: the seed's eight, the lowest first, and then 24 zeros
abbrev pub key_bytes : ℕ → List ℕ
key_bytes seed = to_le_bytes w64 seed ++ replicate 24 0

-- how many words a stream has
abbrev pub stream_length : ℕ
stream_length = 2 ^ 68

-- the word at a place of a stream, where places count from 0
abbrev pub seed_word : ℕ → ℕ → ℕ → ℕ
seed_word seed stream place = word_at double_rounds (key_of (key_bytes seed)) stream place
