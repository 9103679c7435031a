-- The kept numbers of one mask.
use Rattle.std.specs.Prelude.{ℕ, List, []}

-- numbers by index, and how many there is room for
pub record KeptNumbers : Type 0 where
  pub room : ℕ
  pub numbers : List ℕ

abbrev pub kept_numbers : ℕ → List ℕ → KeptNumbers
kept_numbers room numbers = record { room = room; numbers = numbers }

-- those of no mask
abbrev pub no_numbers : KeptNumbers
no_numbers = kept_numbers 0 []
