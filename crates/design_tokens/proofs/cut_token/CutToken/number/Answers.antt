use Rattle.std.proofs.Common.{◌∙◌, ap}
use Rattle.design_tokens.specs.Numerals.{numeral_number, numeral_of}
use Rattle.design_tokens.proofs.Numerals.{numeral_says}
use Rattle.design_tokens.proofs.cut_token.CutToken.number.Goals as goal

pub returns-clause-number : goal.returns-clause-number
returns-clause-number c = λ t is. c.number.ensures.number ∙ ap (numeral_number c.args.self.now.place) is.numeral ∙ ap (λ at. numeral_number at (numeral_of t.bytes)) is.place ∙ numeral_says t.place t.bytes
