-- Numbers and fractions in digits alone.
use Rattle.std.specs.Prelude.{ℕ, ◌+◌, ◌==◌, Bool, ◌&&◌, List, length, take, drop, nat_lt}
use Rattle.std.specs.Char.{is_ascii_digit}
use Rattle.std.specs.List.{position_or_len, list_all}

-- one digit or more, and nothing else
abbrev pub is_digits : List ℕ → Bool
is_digits bytes = nat_lt 0 (length bytes) && list_all is_ascii_digit bytes

-- the byte `/`
abbrev pub is_slash : ℕ → Bool
is_slash b = b == 47

-- the bytes before the first `/`; all of them where there is none
abbrev pub before_slash : List ℕ → List ℕ
before_slash bytes = take (position_or_len is_slash bytes) bytes

-- the bytes behind it; none where there is none
abbrev pub behind_slash : List ℕ → List ℕ
behind_slash bytes = drop (position_or_len is_slash bytes + 1) bytes
