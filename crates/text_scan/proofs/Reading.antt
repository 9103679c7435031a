-- What is left of a text that is being read.
use Rattle.std.proofs.Common.{◌≡◌, ℕ, ◌+◌, ◌-◌, ◌<◌, ◌≤◌, false, List, [], ◌∷◌, length, take, drop, get_or, slice_range, refl, sym, ap, subst, true≢false, true, ◌∙◌, arith, ◌↔◌, IsNone, IfOk, IsTrue, Some, None, ⊎_elim, slice_get, length-drop, length-take-le, get_or-drop, drop-drop, add-zero, le_refl, not}
use Rattle.std.specs.List.{prefix_len, position_or_len, AllByRecursion}
use Rattle.std.proofs.lemmas.List.{drop_all}
use Rattle.std.proofs.lemmas.Option.{slice_get-get_or, slice_get_past}
use Rattle.std.proofs.lemmas.Bool.{cases_lt, cases_eq}
use Rattle.std.proofs.lemmas.List.Sums.{prefix_len_stops, prefix_len-le-length}
use Rattle.text_scan.specs.Parts.{or_refuse}
use Rattle.text_scan.specs.Tokens.{is_blank, Token, tokens_from, after_first_token, first_end, is_word, StandsWithin}
use Rattle.text_scan.specs.Numbers.{is_number, number_front}
use Rattle.text_scan.specs.Reading.{Reading, left, tokens_left, first_token, past_blanks, past_token, next_byte, past_number}
use Rattle.text_scan.proofs.Tokens.{tokens_after_blanks, tokens_of_run, run_is_nonempty, tokens_stand_within}

-- the first token that is left is a word
pub first_token_is_word : {F : Type 0} (missing : ℕ → F) (r : Reading) → IfOk (first_token missing r) (λ token. IsTrue (is_word token.bytes))
first_token_is_word missing r = at (tokens_left r) (tokens_stand_within r.place (left r))
  where
    at : (ts : List Token) → AllByRecursion (StandsWithin r.place (r.place + length (left r))) ts → IfOk (or_refuse (slice_get ts 0) (missing (length r.text))) (λ token. IsTrue (is_word token.bytes))
    at [] all = tt
    at (t ∷ ts) all = all.0.0

-- the blanks that come next are no part of a token
pub tokens_past_blanks : (r : Reading) → tokens_left (past_blanks r) ≡ tokens_left r
tokens_past_blanks r =
    let k = prefix_len is_blank (left r) in
    sym (tokens_after_blanks r.place (left r) ∙ ap (tokens_from (r.place + k)) (drop-drop k r.place r.text))

-- where only blanks are left, no token is
pub no_token : (r : Reading) → length r.text ≤ (past_blanks r).place → tokens_left r ≡ []
no_token r ends = sym (tokens_past_blanks r) ∙ ap (tokens_from (past_blanks r).place) (drop_all _ r.text ends)

-- else the next byte is no blank
pub next_is_no_blank : (r : Reading) → (past_blanks r).place < length r.text → is_blank (get_or (left (past_blanks r)) 0 0) ≡ false
next_is_no_blank r inside =
    let k = prefix_len is_blank (left r) in
    let here : get_or (left (past_blanks r)) 0 0 ≡ get_or (left r) k 0 =
    get_or-drop (r.place + k) r.text 0 0 ∙ ap (λ i. get_or r.text i 0) (add-zero (r.place + k)) ∙ sym (get_or-drop r.place r.text k 0) in
    ap is_blank here ∙ prefix_len_stops is_blank (left r) 0 (omega (arith, length-drop r.place r.text))

-- and the next token begins there, and goes up to the next blank
pub first_token_is : (r : Reading) (start end : ℕ) → start ≡ (past_blanks r).place → end ≡ start + position_or_len is_blank (drop start r.text) → start < length r.text →
    tokens_left r ≡ record { place = start; bytes = slice_range r.text start end } ∷ tokens_from end (drop end r.text)
first_token_is r start end from to inside =
    let rest = drop start r.text in
    let n = position_or_len is_blank rest in
    let next : tokens_from start rest ≡ tokens_left r = ap (λ p. tokens_from p (drop p r.text)) from ∙ tokens_past_blanks r in
    let no_blank : is_blank (get_or rest 0 0) ≡ false =
    let P : ℕ → Type 0 = λ p. is_blank (get_or (drop p r.text) 0 0) ≡ false in
    subst P (sym from) (next_is_no_blank r (omega arith)) in
    let taken : n ≡ end - start = omega arith in
    sym next ∙ tokens_of_run start rest (omega (arith, length-drop start r.text)) no_blank
    ∙ ap (λ i. record { place = start; bytes = take i rest } ∷ tokens_from (start + n) (drop n rest)) taken
    ∙ ap (λ l. record { place = start; bytes = slice_range r.text start end } ∷ tokens_from (start + n) l) (drop-drop n start r.text)
    ∙ ap (λ q. record { place = start; bytes = slice_range r.text start end } ∷ tokens_from q (drop q r.text)) (sym to)

-- no byte that is no blank is left just where no token is
pub no_byte : (r : Reading) → IsNone (next_byte r) ↔ (tokens_left r ≡ [])
no_byte r = ⊎_elim
    (λ (inside : (past_blanks r).place < length r.text).
    let byte : next_byte r ≡ Some (get_or (left (past_blanks r)) 0 0) = slice_get-get_or (left (past_blanks r)) 0 0 (omega (arith, length-drop (past_blanks r).place r.text)) in
    let first = first_token_is r (past_blanks r).place _ refl refl inside in
    (λ none. absurd (true≢false (rw byte at none)), λ none. absurd (cc (first, none))))
    (λ (ends : length r.text ≤ (past_blanks r).place).
    let byte : next_byte r ≡ None = slice_get_past (left (past_blanks r)) 0 (omega (arith, length-drop (past_blanks r).place r.text)) in
    (λ _. no_token r ends, λ _. rw byte refl))
    (cases_lt (past_blanks r).place (length r.text))

-- where the next run of bytes that are not blanks starts and ends; both are the end of the text where only blanks are left
pub record IsNextRun (r : Reading) (start end : ℕ) : Type 0 where
  pub starts : start ≡ (past_blanks r).place
  pub ends : end ≡ start + position_or_len is_blank (drop start r.text)
  pub in_text : start ≤ length r.text

module _ {r : Reading} {start end : ℕ} (run : IsNextRun r start end) where
  -- inside the text it is not empty
  run_grows : start < length r.text → start < end
  run_grows inside =
      let no_blank : is_blank (get_or (drop start r.text) 0 0) ≡ false =
      let P : ℕ → Type 0 = λ p. is_blank (get_or (drop p r.text) 0 0) ≡ false in
      subst P (sym run.starts) (next_is_no_blank r (omega (arith, run.starts))) in
      omega (arith, run.ends, run_is_nonempty (drop start r.text) (omega (arith, length-drop start r.text)) no_blank)

  -- where it is empty, the text ends there
  pub run_at_end : start ≡ end → start ≡ length r.text
  run_at_end same = ⊎_elim
      (λ (inside : start < length r.text). let grows : start < end = run_grows inside in absurd (omega arith))
      (λ (ends : length r.text ≤ start). omega (arith, run.in_text))
      (cases_lt start (length r.text))

  -- and no token is left
  pub no_token_in_run : start ≡ end → tokens_left r ≡ []
  no_token_in_run same = no_token r (omega (arith, run_at_end same, run.starts))

  -- else it is the first token
  pub token_in_run : (start ≡ end → ⊥) → tokens_left r ≡ record { place = start; bytes = slice_range r.text start end } ∷ tokens_from end (drop end r.text)
  token_in_run more = first_token_is r start end run.starts run.ends (⊎_elim
      (λ (inside : start < length r.text). inside)
      (λ (ends : length r.text ≤ start).
      let empty : drop start r.text ≡ [] = drop_all start r.text ends in
      absurd (more (omega (arith, run.ends, ap (position_or_len is_blank) empty))))
      (cases_lt start (length r.text)))

  -- its end is where reading the token leads
  pub run_leads : end ≤ length r.text → first_end (length r.text) (tokens_left r) ≡ end
  run_leads within = ⊎_elim
      (λ (same : start ≡ end). rw (no_token_in_run same) (omega (arith, run_at_end same)))
      (λ (more : start ≡ end → ⊥).
      rw (token_in_run more) (omega (arith, run.ends, length-take-le (end - start) (drop start r.text) (omega (arith, length-drop start r.text)))))
      (cases_eq start end)

-- behind the first token the other tokens are left
pub tokens_past_token : (r : Reading) → tokens_left (past_token r) ≡ after_first_token (tokens_left r)
tokens_past_token r = ⊎_elim
    (λ (inside : start < length r.text).
    let within : end ≤ length r.text = omega (arith, prefix_len-le-length (λ b. not (is_blank b)) (drop start r.text), length-drop start r.text) in
    ap (λ p. tokens_from p (drop p r.text)) (run_leads (run (omega arith)) within) ∙ sym (ap after_first_token (first_token_is r start end refl refl inside)))
    (λ (ends : length r.text ≤ start).
    let none = no_token r ends in
    rw none (ap (tokens_from (length r.text)) (drop_all (length r.text) r.text (le_refl (length r.text)))))
    (cases_lt start (length r.text))
  where
    start : ℕ
    start = (past_blanks r).place

    end : ℕ
    end = start + position_or_len is_blank (drop start r.text)

    run : start ≤ length r.text → IsNextRun r start end
    run in_text = record { starts = refl; ends = refl; in_text = in_text }

-- where reading a number leads
pub number_leads : (r : Reading) (start end : ℕ) → start ≡ (past_blanks r).place → is_number (number_front (drop start r.text)) ≡ true →
    end ≡ start + length (number_front (drop start r.text)) → past_number r ≡ record { text = r.text; place = end }
number_leads r start end from number to = rw (← from) (rw number (ap (λ p. record { text = r.text; place = p }) (sym to)))
