-- How far a text has been read, and what is left of it.
use Rattle.std.specs.Prelude.{ℕ, Bool, ◌+◌, ◌==◌, List, length, drop, if◌then◌else◌, Option, None, Some, slice_get, false, ℤ, Result, Ok}
use Rattle.std.specs.List.{prefix_len}
use Rattle.text_scan.specs.Tokens.{is_blank, Token, tokens_from, first_end}
use Rattle.text_scan.specs.Parts.{◌>>=◌, or_refuse}
use Rattle.text_scan.specs.Numbers.{number_front, is_number, token_number, front_number}
use Rattle.text_scan.specs.declared.number.Number.{Number}
use Rattle.text_scan.specs.declared.number_fault.NumberFault.{NumberFault}
use Rattle.text_scan.specs.declared.number_fault.NumberFault.TheVariants.{End}

-- it is there, and it is b
abbrev pub is_some_of : ℕ → Option ℕ → Bool
is_some_of b None = false
is_some_of b (Some x) = x == b

-- a text, and the place of its next byte to read
pub record Reading : Type 0 where
  pub text : List ℕ
  pub place : ℕ

-- nothing of the text has been read
abbrev pub whole : List ℕ → Reading
whole text = record { text = text; place = 0 }

-- the bytes that are left
abbrev pub left : Reading → List ℕ
left r = drop r.place r.text

-- the tokens that are left
abbrev pub tokens_left : Reading → List Token
tokens_left r = tokens_from r.place (left r)

-- the first of them; where there is none, what is missing at the end of the text
abbrev pub first_token : {F : Type 0} → (ℕ → F) → Reading → Result Token F
first_token missing r = or_refuse (slice_get (tokens_left r) 0) (missing (length r.text))

-- the number that the first token is, or why it is none
abbrev pub first_number : ℤ → ℤ → Reading → Result Number NumberFault
first_number lo hi r = do
  token ← first_token End r
  value ← token_number lo hi token
  Ok (record { value = value; at = token.place })

-- after n more bytes
abbrev pub past : ℕ → Reading → Reading
past n r = record { text = r.text; place = r.place + n }

-- after the blanks that come next
abbrev pub past_blanks : Reading → Reading
past_blanks r = past (prefix_len is_blank (left r)) r

-- the place of the first byte that is left and is no blank; the length of the text where there is none
abbrev pub next_place : Reading → ℕ
next_place r = (past_blanks r).place

-- that byte
abbrev pub next_byte : Reading → Option ℕ
next_byte r = slice_get (left (past_blanks r)) 0

-- it is b
abbrev pub is_next : ℕ → Reading → Bool
is_next b r = is_some_of b (next_byte r)

-- after the first token; at the end of the text where none is left
abbrev pub past_token : Reading → Reading
past_token r = record { text = r.text; place = first_end (length r.text) (tokens_left r) }

-- the number that comes next after blanks, or why none does
abbrev pub next_number : ℤ → ℤ → Reading → Result ℤ NumberFault
next_number lo hi r = front_number lo hi (length r.text) (past_blanks r).place (left (past_blanks r))

-- after the blanks, and after the number that is next; after the blanks alone where none is next
abbrev pub past_number : Reading → Reading
past_number r =
    let next = past_blanks r in
    let front = number_front (left next) in
    if is_number front then past (length front) next else next

-- after the blanks, and after the byte b where it is next
abbrev pub past_byte : ℕ → Reading → Reading
past_byte b r = if is_next b r then past 1 (past_blanks r) else past_blanks r
