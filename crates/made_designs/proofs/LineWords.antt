-- The words of a text of lines are those of its lines.
use Rattle.std.proofs.Common.{◌≡◌, ℕ, ◌+◌, true, List, [], ◌∷◌, ◌++◌, length, All, refl, ap, ◌∙◌, append_assoc}
use Rattle.std.specs.Prelude.{codes, map, flat_map}
use Rattle.std.proofs.lemmas.List.Elements.{All-head, All-tail}
use Rattle.text_scan.specs.Reading.{Reading, tokens_left, past_token}
use Rattle.text_scan.specs.Tokens.{Token, tokens_from, after_first_token, is_word, ends_word}
use Rattle.text_scan.proofs.Reading.{tokens_past_token}
use Rattle.text_scan.proofs.Words.{tokens_after_gap, word_is_token}
use Rattle.gr_make.specs.MadeText.{line_text}

-- the bytes of each token
abbrev pub words_of : List Token → List (List ℕ)
words_of tokens = map (λ t. t.bytes) tokens

-- the words that are left of a text
abbrev pub words_left : Reading → List (List ℕ)
words_left r = words_of (tokens_left r)

-- the words of a line behind its first
abbrev pub spaced : List (List ℕ) → List ℕ
spaced words = flat_map (λ word. codes " " ++ word) words

-- the text has these words, and then those of what is left
record BeginsWith (place : ℕ) (text : List ℕ) (words : List (List ℕ)) (rest : List ℕ) : Type 0 where
  pub behind : ℕ
  pub same : words_of (tokens_from place text) ≡ words ++ words_of (tokens_from behind rest)

ends_before : (words : List (List ℕ)) (rest : List ℕ) → ends_word (spaced words ++ (10 ∷ rest)) ≡ true
ends_before [] rest = refl
ends_before (word ∷ words) rest = refl

-- all words are words of a text
abbrev pub AreWords : List (List ℕ) → Type 0
AreWords words = All (λ word. is_word word ≡ true) words

-- a word, and then others
word_first : (place : ℕ) (word others rest : List ℕ) (words : List (List ℕ)) → is_word word ≡ true → ends_word others ≡ true →
    BeginsWith (place + length word) others words rest → BeginsWith place (word ++ others) (word ∷ words) rest
word_first place word others rest words is ends then = record {
  behind = then.behind;
  same = ap words_of (word_is_token place word others is ends) ∙ ap (λ bytes. word ∷ bytes) then.same;
}

spaced_words : (place : ℕ) (words : List (List ℕ)) (rest : List ℕ) → AreWords words → BeginsWith place (spaced words ++ (10 ∷ rest)) words rest
spaced_words place [] rest are = record { behind = place + 1; same = ap words_of (tokens_after_gap place (10 ∷ []) rest refl) }
spaced_words place (word ∷ words) rest are =
    let others = spaced words ++ (10 ∷ rest) in
    let next = spaced_words (place + 1 + length word) words rest (All-tail (λ word. is_word word ≡ true) word words are) in
    let first = word_first (place + 1) word others rest words (All-head (λ word. is_word word ≡ true) word words are) (ends_before words rest) next in
    record {
      behind = first.behind;
      same = ap (λ bytes. words_of (tokens_from place (32 ∷ bytes))) (append_assoc word (spaced words) (10 ∷ rest))
          ∙ ap words_of (tokens_after_gap place (32 ∷ []) (word ++ others) refl)
          ∙ first.same;
    }

line_words : (place : ℕ) (line : List (List ℕ)) (rest : List ℕ) → AreWords line → BeginsWith place (line_text line ++ rest) line rest
line_words place [] rest are = spaced_words place [] rest are
line_words place (word ∷ words) rest are =
    let others = spaced words ++ (10 ∷ rest) in
    let next = spaced_words (place + length word) words rest (All-tail (λ word. is_word word ≡ true) word words are) in
    let first = word_first place word others rest words (All-head (λ word. is_word word ≡ true) word words are) (ends_before words rest) next in
    let parts : line_text (word ∷ words) ++ rest ≡ word ++ others = simp append_assoc in
    record { behind = first.behind; same = ap (λ bytes. words_of (tokens_from place bytes)) parts ∙ first.same }

-- the words of lines, one after another
abbrev pub words_of_lines : List (List (List ℕ)) → List (List ℕ)
words_of_lines lines = flat_map (λ line. line) lines

-- a text of lines has the words of its lines
pub text_words : (place : ℕ) (lines : List (List (List ℕ))) → All AreWords lines → words_of (tokens_from place (flat_map line_text lines)) ≡ words_of_lines lines
text_words place [] are = refl
text_words place (line ∷ lines) are =
    let first = line_words place line (flat_map line_text lines) (All-head AreWords line lines are) in
    first.same ∙ ap (λ words. line ++ words) (text_words first.behind lines (All-tail AreWords line lines are))

-- reading a token leaves the other words
pub words_past_token : (r : Reading) (word : List ℕ) (words : List (List ℕ)) → words_left r ≡ word ∷ words → words_left (past_token r) ≡ words
words_past_token r word words here = ap words_of (tokens_past_token r) ∙ after (tokens_left r) here
  where
    after : (tokens : List Token) → words_of tokens ≡ word ∷ words → words_of (after_first_token tokens) ≡ words
    after [] same = absurd (cc)
    after (t ∷ ts) same = cc
