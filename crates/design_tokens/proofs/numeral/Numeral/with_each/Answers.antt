use Rattle.std.proofs.Common.{List, ℕ, take, get_or, sym, ap, ◌∙◌}
use Rattle.std.proofs.lemmas.List.{take_more}
use Rattle.design_tokens.specs.declared.numeral.Numeral.{Numeral}
use Rattle.design_tokens.specs.Numerals.{next_numeral, numeral_behind}
use Rattle.design_tokens.proofs.Numerals.{numeral_more}
use Rattle.design_tokens.proofs.numeral.Numeral.with_each.Goals as goal

pub loop-byte-preserved : goal.loop-byte-preserved
loop-byte-preserved c =
    let bytes = c.args.bytes.now in
    let i = c.loop-byte.byte-index in
    c.with-numeral.ensures ∙ ap (λ (n : Numeral). next_numeral n (get_or bytes i 0)) c.loop-byte.invariant ∙ sym (numeral_more c.args.self (take i bytes) (get_or bytes i 0))
    ∙ ap (λ (l : List ℕ). numeral_behind c.args.self l) (sym (take_more bytes i 0 c.loop-byte-test.true))
