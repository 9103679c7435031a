use Rattle.std.proofs.Common.{◌≡◌, sym, subst, ◌∙◌, ℤ, SFits, w64}
use Rattle.std.proofs.lemmas.Int.{to_z-of_z}
use Rattle.std.proofs.lemmas.Str.{IsUtf8-from_ascii}
use Rattle.text_scan.specs.Numbers.{value_of}
use Rattle.reference_readers.proofs.WordNumbers.{same_number_value, number_from_numeral, numeral_from_number, number_is_ascii}
use Rattle.reference_readers.proofs.reference_numbers.number_of.Goals as goal

pub returns-in_default : goal.returns-in_default
returns-in_default c = λ is. c.in_default.ensures.cases.0
    (IsUtf8-from_ascii c.args.word.now (number_is_ascii c.args.word.now is.0))

pub returns-in-Ok-parse : goal.returns-in-Ok-parse
returns-in-Ok-parse c =
    let word = c.args.word.now in
    let parsed = (rw c.in-Ok.ensures.cases.0 at c.in-Ok-parse.ensures.value).0 in
    let value : c.in-Ok-parse.number ≡ value_of word = parsed.1 ∙ same_number_value word in
    let fits : SFits w64 (value_of word) = subst (λ (z : ℤ). SFits w64 z) (same_number_value word) parsed.0.1 in (
      (number_from_numeral word parsed.0.0, fits),
      to_z-of_z w64 c.in-Ok-parse.number (subst (λ (z : ℤ). SFits w64 z) (sym value) fits) ∙ value,
    )

pub returns-in-Err : goal.returns-in-Err
returns-in-Err c = λ is.
    let word = c.args.word.now in
    (rw c.in-Ok.ensures.cases.0 at c.in-Err.ensures.value).0
    (numeral_from_number word is.0, subst (λ (z : ℤ). SFits w64 z) (sym (same_number_value word)) is.1)
