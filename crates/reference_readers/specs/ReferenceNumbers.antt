-- The number that a word is.
use Rattle.std.specs.Prelude.{ℕ, ◌&&◌, List, if◌then◌else◌, ℤ, Option, Some, None}
use Rattle.text_scan.specs.Numbers.{is_number, is_within, value_of}

-- the number from lo to hi that a word is, where it is one
abbrev pub word_as_number : ℤ → ℤ → List ℕ → Option ℤ
word_as_number lo hi word = if is_number word && is_within lo hi (value_of word) then Some (value_of word) else None
