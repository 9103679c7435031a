-- What a number is, and what reading one answers.
use Rattle.std.specs.Prelude.{ℕ, Bool, ◌+◌, ◌==◌, ◌||◌, ◌&&◌, List, [], ◌∷◌, length, take, drop, if◌then◌else◌, nat_lt, slice_index, ℤ, pos, neg_ℤ, Result, Ok, Err, true, not}
use Rattle.std.specs.Int.Signed.{le_z}
use Rattle.std.specs.Char.{is_ascii_digit}
use Rattle.std.specs.Str.{all_ascii_digits}
use Rattle.std.specs.Str.Parse.{digits_value}
use Rattle.std.specs.List.{prefix_len}
use Rattle.text_scan.specs.declared.number_fault.NumberFault.{NumberFault}
use Rattle.text_scan.specs.declared.number_fault.NumberFault.TheVariants.{NotNumber, OutOfRange, End}
use Rattle.text_scan.specs.Tokens.{Token}

-- a plus or a minus
abbrev pub is_sign : ℕ → Bool
is_sign b = (b == 43) || (b == 45)

-- a minus stands first
abbrev pub is_negative : List ℕ → Bool
is_negative bytes = slice_index bytes 0 == 45

-- how many bytes a sign takes in front
abbrev pub sign_len : List ℕ → ℕ
sign_len bytes = if is_sign (slice_index bytes 0) then 1 else 0

-- the bytes after the sign, if there is one
abbrev pub unsigned : List ℕ → List ℕ
unsigned bytes = drop (sign_len bytes) bytes

-- an optional sign, then one digit or more, and nothing else
abbrev pub is_number : List ℕ → Bool
is_number bytes = nat_lt 0 (length (unsigned bytes)) && all_ascii_digits (unsigned bytes)

-- the value of a number, however many digits it has
abbrev pub value_of : List ℕ → ℤ
value_of bytes = if is_negative bytes then neg_ℤ (pos (digits_value 10 (unsigned bytes))) else pos (digits_value 10 (unsigned bytes))

-- the longest front of the bytes that is an optional sign and digits
abbrev pub number_front : List ℕ → List ℕ
number_front bytes = take (sign_len bytes + prefix_len is_ascii_digit (unsigned bytes)) bytes

-- lo ≤ value ≤ hi
abbrev pub is_within : ℤ → ℤ → ℤ → Bool
is_within lo hi value = le_z lo value && le_z value hi

-- the number from lo to hi that a token is, or why it is none
abbrev pub token_number : ℤ → ℤ → Token → Result ℤ NumberFault
token_number lo hi t =
    if is_number t.bytes then (if is_within lo hi (value_of t.bytes) then Ok (value_of t.bytes) else Err (OutOfRange t.place))
    else Err (NotNumber t.place)

-- the number that the bytes begin with, of which the first stands at a place, in a text of this length
abbrev pub front_number : ℤ → ℤ → ℕ → ℕ → List ℕ → Result ℤ NumberFault
front_number lo hi len place [] = Err (End len)
front_number lo hi len place (b ∷ bs) = token_number lo hi (record { place = place; bytes = number_front (b ∷ bs) })

-- nothing, or bytes of which the first is no digit
abbrev pub ends_number : List ℕ → Bool
ends_number [] = true
ends_number (b ∷ bs) = not (is_ascii_digit b)
