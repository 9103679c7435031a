-- Reading the words, names and numbers of a design text that is made of lines of words.
use Rattle.std.proofs.Common.{◌≡◌, ℕ, ◌≤◌, true, false, List, [], ◌∷◌, refl, ap, ◌∙◌, arith, pos, neg_ℤ, ◌≤ℤ◌, le-leb, Ok}
use Rattle.std.specs.Prelude.{decimal, Some, int_lt}
use Rattle.std.proofs.lemmas.Bool.Decides.{nat_tests}
use Rattle.std.proofs.lemmas.Int.{ints}
use Rattle.std.proofs.lemmas.Slice.Eq.{bytes_eq-Decides}
use Rattle.text_scan.specs.Parts.{Read, ◌>>=◌}
use Rattle.text_scan.specs.Reading.{Reading, tokens_left, past_token}
use Rattle.text_scan.specs.Tokens.{Token, is_word}
use Rattle.text_scan.proofs.Ranges.{within_is}
use Rattle.text_scan.proofs.Texts.{number_is_word, within_them}
use Rattle.text_scan.proofs.Words.{printed_number}
use Rattle.grid_graph.specs.Limits.{max_number}
use Rattle.design_tokens.specs.declared.input_fault.InputFault.{InputFault}
use Rattle.design_tokens.specs.declared.wanted.Wanted.{Wanted}
use Rattle.ispd_reader.specs.Numbers.{word_at, name_at, number_at, number_within, side_at}
use Rattle.ispd_reader.specs.Words.{spelling}
use Rattle.made_designs.proofs.LineWords.{words_of, words_left, words_past_token}

-- reading a part answers this value, and these words are left then
pub record Reads {A F : Type 0} (answer : Read Reading F A) (value : A) (words : List (List ℕ)) : Type 0 where
  pub after : Reading
  pub reads : answer ≡ Ok (value, after)
  pub leaves : words_left after ≡ words

-- one part, and then another
pub reads-then : {A B F : Type 0} {answer : Read Reading F A} {x : A} {between words : List (List ℕ)} {y : B} (f : A × Reading → Read Reading F B) →
    Reads answer x between → ((r : Reading) → words_left r ≡ between → Reads (f (x, r)) y words) → Reads (answer >>= f) y words
reads-then f first then =
    let next = then first.after first.leaves in
    record { after = next.after; reads = ap (λ a. a >>= f) first.reads ∙ next.reads; leaves = next.leaves }

-- the first token is this word, and these are left behind it
pub record IsNext (r : Reading) (word : List ℕ) (words : List (List ℕ)) : Type 0 where
  pub place : ℕ
  pub others : List Token
  pub tokens : tokens_left r ≡ record { place = place; bytes = word } ∷ others
  pub leaves : words_left (past_token r) ≡ words

-- so it is where it is the first word that is left
pub is_next : (r : Reading) (word : List ℕ) (words : List (List ℕ)) → words_left r ≡ word ∷ words → IsNext r word words
is_next r word words here = at (tokens_left r) refl here
  where
    at : (tokens : List Token) → tokens_left r ≡ tokens → words_of tokens ≡ word ∷ words → IsNext r word words
    at [] is same = absurd (cc)
    at (t ∷ ts) is same =
        let bytes : t.bytes ≡ word = cc in
        record {
          place = t.place;
          others = ts;
          tokens = is ∙ ap (λ (found : List ℕ). record { place = t.place; bytes = found } ∷ ts) bytes;
          leaves = words_past_token r word words here;
        }

-- a printed number of a design is a word
pub printed_is_word : (n : ℕ) → n ≤ max_number → is_word (decimal n) ≡ true
printed_is_word n below = number_is_word (decimal n) (printed_number (pos n) (omega (arith, below))).0

-- a fixed word is read
pub word_read : (w : Wanted) (r : Reading) (words : List (List ℕ)) → words_left r ≡ spelling w ∷ words → Reads (word_at w r) tt words
unfolding word_at
word_read w r words here =
    let next = is_next r (spelling w) words here in
    record { after = past_token r; reads = rw (next.tokens, (bytes_eq-Decides (spelling w) (spelling w)).1 refl) refl; leaves = next.leaves }

-- a name is read
pub name_read : (name : List ℕ) (r : Reading) (words : List (List ℕ)) → words_left r ≡ name ∷ words → Reads (name_at r) name words
unfolding name_at
name_read name r words here =
    let next = is_next r name words here in
    record { after = past_token r; reads = rw next.tokens refl; leaves = next.leaves }

-- a printed number is read, at some place
pub record ReadsNumber (r : Reading) (n : ℕ) (words : List (List ℕ)) : Type 0 where
  pub place : ℕ
  pub read : Reads (number_at r) (record { value = pos n; at = place }) words

pub number_read : (n : ℕ) (r : Reading) (words : List (List ℕ)) → n ≤ max_number → words_left r ≡ decimal n ∷ words → ReadsNumber r n words
unfolding number_at
number_read n r words below here =
    let next = is_next r (decimal n) words here in
    let spelled = printed_number (pos n) (omega (arith, below)) in
    let low : neg_ℤ (pos max_number) ≤ℤ pos n = omega (arith, ints) in
    let high : pos n ≤ℤ pos max_number = omega (arith, ints, below) in
    let inside = within_them (neg_ℤ (pos max_number)) (pos max_number) (pos n) low high in
    record {
      place = next.place;
      read = record { after = past_token r; reads = rw (next.tokens, spelled.0, spelled.1, inside) refl; leaves = next.leaves };
    }

-- a printed number within its limits is read
pub within_read : (lo hi n : ℕ) (refusal : ℕ → InputFault) (r : Reading) (words : List (List ℕ)) → lo ≤ n → n ≤ hi → n ≤ max_number →
    words_left r ≡ decimal n ∷ words → Reads (number_within lo hi refusal r) n words
unfolding number_within
within_read lo hi n refusal r words low high below here =
    let number = number_read n r words below here in
    record { after = number.read.after; reads = rw (number.read.reads, within_is lo hi n low high) refl; leaves = number.read.leaves }

-- a side of a tile is read
pub side_read : (n : ℕ) (r : Reading) (words : List (List ℕ)) → 1 ≤ n → n ≤ max_number → words_left r ≡ decimal n ∷ words → Reads (side_at r) (pos n) words
unfolding side_at
side_read n r words low below here =
    let number = number_read n r words below here in
    let tall : int_lt (pos n) (pos 1) ≡ false = grind (arith, nat_tests) in
    record { after = number.read.after; reads = rw (number.read.reads, tall) refl; leaves = number.read.leaves }
