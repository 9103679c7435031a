use Rattle.std.proofs.Common.{sym, ◌∙◌}
use Rattle.design_tokens.proofs.NextTokens.{word_is_next, word_is_other}
use Rattle.design_tokens.proofs.values.word.Goals as goal

pub returns-then-is_word : goal.returns-then-is_word
returns-then-is_word c = word_is_next c.args.token.now c.args.wanted (λ t is. sym (c.is_word.ensures t is) ∙ c.if-is_word.true)

pub returns-else-is_word : goal.returns-else-is_word
returns-else-is_word c = rw c.place.ensures (word_is_other c.args.token.now c.args.wanted (λ t is. sym (c.is_word.ensures t is) ∙ c.if-is_word.false))
