-- What the tokens of a text are.
use Rattle.std.specs.Prelude.{ℕ, Bool, ◌+◌, ◌==◌, ◌||◌, List, [], ◌∷◌, length, if◌then◌else◌, slice_range, true, not, ◌&&◌, nat_lt, ◌≤◌, IsTrue}
use Rattle.std.specs.List.{list_all}
use Rattle.text_scan.specs.declared.span.Span.{Span}

-- space, tab, CR and LF
abbrev pub is_blank : ℕ → Bool
is_blank b = (b == 32) || (b == 9) || (b == 13) || (b == 10)

-- a token: the place of its first byte, and its bytes
pub record Token : Type 0 where
  pub place : ℕ
  pub bytes : List ℕ

-- the byte b at a place, before these tokens: it joins the one that begins right behind it, or is one alone
abbrev pub with_byte : ℕ → ℕ → List Token → List Token
with_byte place b [] = record { place = place; bytes = b ∷ [] } ∷ []
with_byte place b (t ∷ ts) =
    if t.place == place + 1 then record { place = place; bytes = b ∷ t.bytes } ∷ ts
    else record { place = place; bytes = b ∷ [] } ∷ t ∷ ts

-- the tokens of bytes of which the first stands at a place: their longest runs without a blank, in order
abbrev pub tokens_from : ℕ → List ℕ → List Token
tokens_from place [] = []
tokens_from place (b ∷ bs) =
    if is_blank b then tokens_from (place + 1) bs else with_byte place b (tokens_from (place + 1) bs)

-- the token that stands in these bounds of a text
abbrev pub token_at : List ℕ → Span → Token
token_at text span = record { place = span.start; bytes = slice_range text span.start span.end }

-- the tokens after the first
abbrev pub after_first_token : List Token → List Token
after_first_token [] = []
after_first_token (t ∷ ts) = ts

-- where the first token ends; the length of the text where there is none
abbrev pub first_end : ℕ → List Token → ℕ
first_end len [] = len
first_end len (t ∷ ts) = t.place + length t.bytes

-- blanks alone, or nothing
abbrev pub is_gap : List ℕ → Bool
is_gap bytes = list_all is_blank bytes

-- one byte or more, none of them a blank
abbrev pub is_word : List ℕ → Bool
is_word bytes = nat_lt 0 (length bytes) && list_all (λ b. not (is_blank b)) bytes

-- nothing, or bytes of which the first is a blank
abbrev pub ends_word : List ℕ → Bool
ends_word [] = true
ends_word (b ∷ bs) = is_blank b

-- a word between two places
abbrev pub StandsWithin : ℕ → ℕ → Token → Type 0
StandsWithin from to t = IsTrue (is_word t.bytes) × (from ≤ t.place) × (t.place + length t.bytes ≤ to)
