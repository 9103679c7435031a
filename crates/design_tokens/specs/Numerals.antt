-- What the bytes of a token are as a number, byte by byte.
use Rattle.std.specs.Prelude.{ℕ, Bool, true, false, ◌+◌, ◌-◌, ◌*◌, ◌==◌, nat_le, if◌then◌else◌, List, [], ◌∷◌, ℤ, pos, neg_ℤ, Result, Ok, Err}
use Rattle.std.specs.Char.{is_ascii_digit}
use Rattle.text_scan.specs.Tokens.{Token}
use Rattle.text_scan.specs.Numbers.{token_number}
use Rattle.text_scan.specs.Parts.{◌>>=◌}
use Rattle.text_scan.specs.declared.number.Number.{Number}
use Rattle.text_scan.specs.declared.number_fault.NumberFault.{NumberFault}
use Rattle.text_scan.specs.declared.number_fault.NumberFault.TheVariants.{NotNumber, OutOfRange}
use Rattle.grid_graph.specs.Limits.{max_number}
use Rattle.design_tokens.specs.declared.numeral.Numeral.{Numeral}
use Rattle.design_tokens.specs.declared.numeral.Numeral.TheVariants.{Nothing, Sign, Digits, Other}

-- a magnitude with one more digit; one that is too great stays as it is
abbrev pub magnitude_after : ℕ → ℕ → ℕ
magnitude_after magnitude digit = if nat_le magnitude max_number then magnitude * 10 + digit else magnitude

-- digits of this magnitude with one more byte
abbrev pub next_digit : Bool → ℕ → ℕ → Numeral
next_digit negative magnitude b = if is_ascii_digit b then Digits negative (magnitude_after magnitude (b - 48)) else Other

-- the first byte alone
abbrev pub first_byte : ℕ → Numeral
first_byte b = if b == 45 then Sign true else if b == 43 then Sign false else next_digit false 0 b

-- one more byte
abbrev pub next_numeral : Numeral → ℕ → Numeral
next_numeral Nothing b = first_byte b
next_numeral (Sign negative) b = next_digit negative 0 b
next_numeral (Digits negative magnitude) b = next_digit negative magnitude b
next_numeral Other b = Other

-- these bytes behind others
abbrev pub numeral_behind : Numeral → List ℕ → Numeral
numeral_behind before [] = before
numeral_behind before (b ∷ bs) = numeral_behind (next_numeral before b) bs

-- the bytes of a token
abbrev pub numeral_of : List ℕ → Numeral
numeral_of bytes = numeral_behind Nothing bytes

-- the number with this sign and magnitude
abbrev pub signed_number : Bool → ℕ → ℤ
signed_number negative magnitude = if negative then neg_ℤ (pos magnitude) else pos magnitude

-- the number of a design that the token at this place is, or why it is none
abbrev pub numeral_number : ℕ → Numeral → Result Number NumberFault
numeral_number at (Digits negative magnitude) =
    if nat_le magnitude max_number then Ok (record { value = signed_number negative magnitude; at = at }) else Err (OutOfRange at)
numeral_number at Nothing = Err (NotNumber at)
numeral_number at (Sign negative) = Err (NotNumber at)
numeral_number at Other = Err (NotNumber at)

-- the number of a design that a token is, or why it is none
abbrev pub design_number : Token → Result Number NumberFault
design_number t = do
  value ← token_number (neg_ℤ (pos max_number)) (pos max_number) t
  Ok (record { value = value; at = t.place })
