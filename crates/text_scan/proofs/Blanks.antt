-- How many bytes are left after blanks, a byte, a number and a token.
use Rattle.std.proofs.Common.{◌≡◌, ℕ, ◌+◌, ◌<◌, ◌≤◌, true, false, not, slice_get, List, [], ◌∷◌, length, refl, ⊎_elim, arith, length-drop, ltb-true, nat_lt}
use Rattle.std.specs.List.{list_all, prefix_len}
use Rattle.std.proofs.lemmas.Bool.{cases_Bool, and_parts}
use Rattle.text_scan.specs.Tokens.{Token, is_blank}
use Rattle.text_scan.specs.Numbers.{is_number, number_front}
use Rattle.text_scan.specs.Reading.{Reading, left, tokens_left, is_some_of, is_next, past, past_blanks, past_token, past_number, past_byte}
use Rattle.text_scan.proofs.Bounds.{left-past}
use Rattle.text_scan.proofs.Tokens.{tokens_stand_within}

-- blanks give none back
pub past_blanks-left : (r : Reading) → length (left (past_blanks r)) ≤ length (left r)
past_blanks-left r = omega (arith, left-past (prefix_len is_blank (left r)) r)

some_left : (b : ℕ) (bytes : List ℕ) → is_some_of b (slice_get bytes 0) ≡ true → 0 < length bytes
some_left b [] found = cc
some_left b (x ∷ xs) found = omega arith

-- a byte that is next takes one
pub past_byte-takes : (b : ℕ) (r : Reading) → is_next b r ≡ true → length (left (past 1 (past_blanks r))) + 1 ≤ length (left r)
past_byte-takes b r found = omega (arith, some_left b (left (past_blanks r)) found, left-past 1 (past_blanks r), past_blanks-left r)

-- looking for one gives none back
pub past_byte-left : (b : ℕ) (r : Reading) → length (left (past_byte b r)) ≤ length (left r)
past_byte-left b r = ⊎_elim
    (λ (found : is_next b r ≡ true). rw found (omega (arith, past_byte-takes b r found)))
    (λ (other : is_next b r ≡ false). rw other (past_blanks-left r))
    (cases_Bool (is_next b r))

-- nor does a number
pub past_number-left : (r : Reading) → length (left (past_number r)) ≤ length (left r)
past_number-left r =
    let next = past_blanks r in
    let front = number_front (left next) in
    ⊎_elim
    (λ (is : is_number front ≡ true). rw is (omega (arith, left-past (length front) next, past_blanks-left r)))
    (λ (other : is_number front ≡ false). rw other (past_blanks-left r))
    (cases_Bool (is_number front))

-- a token takes a byte at least
pub past_token-takes : (r : Reading) (t : Token) (ts : List Token) → tokens_left r ≡ t ∷ ts → length (left (past_token r)) + 1 ≤ length (left r)
past_token-takes r t ts first =
    let stands = rw first at (tokens_stand_within r.place (left r)) in
    let some = ltb-true 0 (length t.bytes) (and_parts (nat_lt 0 (length t.bytes)) (list_all (λ b. not (is_blank b)) t.bytes) stands.0.0).0 in
    rw first (omega (arith, some, stands.0.1, stands.0.2, length-drop r.place r.text, length-drop (t.place + length t.bytes) r.text))

-- and the end of the text none back
pub past_token-left : (r : Reading) → length (left (past_token r)) ≤ length (left r)
past_token-left r = at (tokens_left r) refl
  where
    at : (ts : List Token) → tokens_left r ≡ ts → length (left (past_token r)) ≤ length (left r)
    at [] none = rw none (omega (arith, length-drop (length r.text) r.text))
    at (t ∷ ts) first = omega (arith, past_token-takes r t ts first)
