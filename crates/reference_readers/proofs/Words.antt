-- The words between blanks are the tokens.
use Rattle.std.proofs.Common.{◌≡◌, ◌≢◌, ℕ, suc, ◌+◌, ◌≤◌, ◌==◌, Bool, true, false, List, [], ◌∷◌, ◌++◌, length, map, Bor}
use Rattle.std.proofs.Common.{if◌then◌else◌, cond, refl, sym, ◌∙◌, ap, append_assoc, add-zero, arith}
use Rattle.std.proofs.lemmas.Bool.{eqb-true}
use Rattle.std.proofs.lemmas.List.Sums.{sum_by-cons}
use Rattle.std.proofs.lemmas.Bool.Decides.{nat_tests}
use Rattle.std.specs.List.{slice_split, onto_first, sum_by}
use Rattle.text_scan.specs.Tokens.{Token, is_blank, with_byte, tokens_from}
use Rattle.reference_readers.specs.Words.{part_as_token, words_of}

-- a byte before tokens of which none begins right behind it
abbrev BeginsFrom : ℕ → List Token → Type 0
BeginsFrom place [] = Unit {0}
BeginsFrom place (t ∷ ts) = place ≤ t.place

begins_later : (p q : ℕ) (ts : List Token) → p ≤ q → BeginsFrom q ts → BeginsFrom p ts
begins_later p q [] le begins = tt
begins_later p q (t ∷ ts) le begins = omega (arith, le, begins)

words_begin : (place : ℕ) (parts : List (List ℕ)) → BeginsFrom place (words_of place parts)
words_begin place [] = tt
words_begin place ([] ∷ parts) = begins_later place (place + 0 + 1) (words_of (place + 0 + 1) parts) (omega arith)
    (words_begin (place + 0 + 1) parts)
words_begin place ((b ∷ bs) ∷ parts) = omega arith

chosen_apart : (m n : ℕ) (x y : List Token) → m ≢ n → (if m == n then x else y) ≡ y
chosen_apart m n x y apart = grind (arith, nat_tests)

chosen_alike : (m n : ℕ) (x y : List Token) → m ≡ n → (if m == n then x else y) ≡ x
chosen_alike m n x y alike = grind (arith, nat_tests)

alone : (place b : ℕ) (ts : List Token) → BeginsFrom (place + 2) ts
    → with_byte place b ts ≡ record { place = place; bytes = b ∷ [] } ∷ ts
alone place b [] begins = refl
alone place b (t ∷ ts) begins =
    let apart : t.place ≢ place + 1 = omega (arith, begins) in
    chosen_apart t.place (place + 1) _ _ apart

-- a byte before the first part
byte_before : (place b : ℕ) (parts : List (List ℕ))
    → words_of place (onto_first b parts) ≡ with_byte place b (words_of (place + 1) parts)
byte_before place b [] = refl
byte_before place b ([] ∷ parts) =
    let there : place + 1 + 0 + 1 ≡ place + 2 = omega arith in
    let here : place + 1 + 1 ≡ place + 2 = omega arith in
    rw (there, here) (sym (alone place b (words_of (place + 2) parts) (words_begin (place + 2) parts)))
byte_before place b ((c ∷ cs) ∷ parts) =
    let there : place + suc (suc (length cs)) + 1 ≡ place + 1 + suc (length cs) + 1 = omega arith in
    rw there (sym (chosen_alike (place + 1) (place + 1) _ _ refl))

-- the words between blanks are the tokens
pub words_are_tokens : (place : ℕ) (bytes : List ℕ) → words_of place (slice_split is_blank bytes) ≡ tokens_from place bytes
words_are_tokens place [] = refl
words_are_tokens place (b ∷ bs) =
    elim (is_blank b) as (λ (blank : Bool). words_of place
    (cond blank ([] ∷ slice_split is_blank bs) (onto_first b (slice_split is_blank bs)))
    ≡ (if blank then tokens_from (place + 1) bs else with_byte place b (tokens_from (place + 1) bs))) [
      | true ↦ rw (add-zero place) (words_are_tokens (place + 1) bs)
      | false ↦ byte_before place b (slice_split is_blank bs) ∙ ap (with_byte place b) (words_are_tokens (place + 1) bs)
    ]

-- the words of the parts up to the next one
pub words_more : (words more : List Token) (place : ℕ) (part : List ℕ) (parts : List (List ℕ)) (all : List Token)
    → more ≡ words ++ part_as_token place part → words ++ words_of place (part ∷ parts) ≡ all
    → more ++ words_of (place + (length part + 1)) parts ≡ all
words_more words more place part parts all is before =
    let next : place + (length part + 1) ≡ place + length part + 1 = omega arith in
    rw (is, next) (append_assoc words (part_as_token place part) (words_of (place + length part + 1) parts) ∙ before)

-- a part that is not empty is a word
pub part_as_token-nonempty : (place : ℕ) (part : List ℕ) → false ≡ (length part == 0)
    → part_as_token place part ≡ record { place = place; bytes = part } ∷ []
part_as_token-nonempty place [] long = cc
part_as_token-nonempty place (b ∷ bs) long = refl

pub part_as_token-empty : (place : ℕ) (part : List ℕ) → true ≡ (length part == 0) → part_as_token place part ≡ []
part_as_token-empty place [] empty = refl
part_as_token-empty place (b ∷ bs) empty = absurd (omega (arith, eqb-true (length (b ∷ bs)) 0 (sym empty)))

abbrev one_more : List ℕ → ℕ
one_more part = length part + 1

long_onto_first : (b : ℕ) (parts : List (List ℕ)) (n : ℕ) → sum_by one_more parts ≡ n + 1
    → sum_by one_more (onto_first b parts) ≡ suc n + 1
long_onto_first b [] n long = omega (arith, long)
long_onto_first b (part ∷ parts) n long = omega
    (arith, long, sum_by-cons one_more part parts, sum_by-cons one_more (b ∷ part) parts)

-- the parts, and a blank behind each, are as long as the text and one blank more
pub parts_are_long : (p : ℕ → Bool) (bytes : List ℕ)
    → sum_by (λ (part : List ℕ). length part + 1) (slice_split p bytes) ≡ length bytes + 1
parts_are_long p [] = refl
parts_are_long p (b ∷ bs) =
    elim (p b) as (λ (cut : Bool). sum_by one_more (cond cut ([] ∷ slice_split p bs) (onto_first b (slice_split p bs)))
    ≡ suc (length bs) + 1) [
      | true ↦ omega (arith, sum_by-cons one_more [] (slice_split p bs), parts_are_long p bs)
      | false ↦ long_onto_first b (slice_split p bs) (length bs) (parts_are_long p bs)
    ]

-- what is summed over the parts that are lent is the sum over the parts
pub long_lent : (parts : List (Bor (List ℕ)))
    → sum_by (λ (part : Bor (List ℕ)). length part.now + 1) parts
    ≡ sum_by (λ (part : List ℕ). length part + 1) (map (λ (part : Bor (List ℕ)). part.now) parts)
long_lent [] = refl
long_lent (part ∷ parts) =
    sum_by-cons (λ (lent : Bor (List ℕ)). length lent.now + 1) part parts
    ∙ ap (λ (n : ℕ). length part.now + 1 + n) (long_lent parts)
    ∙ sym (sum_by-cons (λ (bytes : List ℕ). length bytes + 1) part.now (map (λ (lent : Bor (List ℕ)). lent.now) parts))
