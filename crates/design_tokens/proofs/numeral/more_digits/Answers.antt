use Rattle.std.proofs.Common.{rules, ◌≡◌, ℕ, List, take, get_or, false, true, refl, sym, ap, ◌∙◌}
use Rattle.std.specs.Char.{is_ascii_digit}
use Rattle.std.proofs.lemmas.List.{take_more}
use Rattle.design_tokens.specs.declared.numeral.Numeral.{Numeral}
use Rattle.design_tokens.specs.declared.numeral.Numeral.TheVariants.{Digits, Other}
use Rattle.design_tokens.specs.Numerals.{next_numeral, numeral_behind}
use Rattle.design_tokens.proofs.Numerals.{numeral_more, past_other}
use Rattle.design_tokens.proofs.numeral.more_digits.Goals as goal

pub returns-then-not-is_ascii_digit : goal.returns-then-not-is_ascii_digit
returns-then-not-is_ascii_digit c =
    let bytes = c.args.bytes.now in
    let i = c.loop-byte.byte-index in
    let b : ℕ = get_or bytes i 0 in
    let other : is_ascii_digit b ≡ false = search rules in
    let ends : next_numeral (Digits c.args.negative c.loop-byte.magnitude) b ≡ Other = rw other refl in
    sym (past_other (Digits c.args.negative c.args.magnitude) bytes i c.loop-byte-test.true (ap (λ (n : Numeral). next_numeral n b) (sym c.loop-byte.invariant) ∙ ends))

pub loop-byte-preserved : goal.loop-byte-preserved
loop-byte-preserved c =
    let bytes = c.args.bytes.now in
    let i = c.loop-byte.byte-index in
    let b : ℕ = get_or bytes i 0 in
    let before = Digits c.args.negative c.args.magnitude in
    let digit : is_ascii_digit b ≡ true = search rules in
    let goes_on : Digits c.args.negative c.grown-magnitude.result ≡ next_numeral (Digits c.args.negative c.loop-byte.magnitude) b = rw digit (ap (λ (m : ℕ). Digits c.args.negative m) c.grown-magnitude.ensures) in
    goes_on ∙ ap (λ (n : Numeral). next_numeral n b) c.loop-byte.invariant ∙ sym (numeral_more before (take i bytes) b)
    ∙ ap (λ (l : List ℕ). numeral_behind before l) (sym (take_more bytes i 0 c.loop-byte-test.true))
