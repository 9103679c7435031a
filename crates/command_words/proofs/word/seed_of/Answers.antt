use Rattle.std.proofs.Common.{◌∙◌, sym}
use Rattle.command_words.proofs.Values.{seed_read}
use Rattle.command_words.proofs.word.seed_of.Goals as goal

pub returns-then-is_value_word : goal.returns-then-is_value_word
returns-then-is_value_word c = seed_read c.args.word.now c.parse.result c.ok.result (sym c.is_value_word.ensures ∙ c.if-is_value_word.true) c.parse.ensures.value.0 c.ok.ensures.value
