-- How long a text of short lines is.
use Rattle.std.proofs.Common.{ℕ, ◌*◌, ◌≤◌, List, [], ◌∷◌, ◌++◌, length, All, arith, length-append}
use Rattle.std.specs.Prelude.{codes, flat_map}
use Rattle.std.proofs.lemmas.List.Elements.{All-head, All-tail}
use Rattle.gr_make.specs.MadeText.{line_text}
use Rattle.made_designs.proofs.LineWords.{spaced}
use Rattle.made_designs.proofs.Lines.{IsShortWord, IsShortLine}

length-spaced : (words : List (List ℕ)) → All IsShortWord words → length (spaced words) ≤ 12 * length words
length-spaced [] short = omega arith
length-spaced (word ∷ words) short =
    let first : length word ≤ 11 = (All-head IsShortWord word words short).short in
    omega (arith, length-append (codes " " ++ word) (spaced words), first, length-spaced words (All-tail IsShortWord word words short))

length-line : (line : List (List ℕ)) → IsShortLine line → length (line_text line) ≤ 120
length-line [] short = omega arith
length-line (word ∷ words) short =
    let first : length word ≤ 11 = (All-head IsShortWord word words short.words).short in
    omega (
      arith,
      length-append (word ++ spaced words) (codes "\n"),
      length-append word (spaced words),
      first,
      length-spaced words (All-tail IsShortWord word words short.words),
      short.few,
    )

-- each line has at most 120 bytes
pub length-text : (lines : List (List (List ℕ))) → All IsShortLine lines → length (flat_map line_text lines) ≤ 120 * length lines
length-text [] short = omega arith
length-text (line ∷ lines) short =
    omega (arith, length-append (line_text line) (flat_map line_text lines), length-line line (All-head IsShortLine line lines short), length-text lines (All-tail IsShortLine line lines short))
