use Rattle.std.proofs.Common.{map}
use Rattle.std.specs.Prelude.{string_bytes}
use Rattle.std.specs.Str.Parse.{ExplainsUnsignedError}
use Rattle.command_words.specs.Kinds.{with_word}
use Rattle.command_words.proofs.Parts.{value_in_range, value_read}
use Rattle.command_words.proofs.read_words.ReadWords.value.Goals as goal

pub returns-clause-value : goal.returns-clause-value
returns-clause-value c =
    let s = c.args.self.now in
    value_read s.matches s.kind (with_word s.kind (map string_bytes s.words.now)) s.read c.args.option c.requires.of_form c.requires.named (ExplainsUnsignedError 10) _ _ c.id.ensures c.get_one.ensures.none c.get_one.ensures.value

pub returns-clause-range : goal.returns-clause-range
returns-clause-range c =
    let s = c.args.self.now in
    value_in_range s.kind (with_word s.kind (map string_bytes s.words.now)) s.read.shaped c.args.option c.requires.of_form c.requires.named s.read.in_range _ (returns-clause-value c)
