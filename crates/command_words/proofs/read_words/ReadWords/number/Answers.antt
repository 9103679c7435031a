use Rattle.std.proofs.Common.{map}
use Rattle.std.specs.Prelude.{string_bytes}
use Rattle.command_words.specs.CommandLine.{given_options}
use Rattle.command_words.specs.Kinds.{form_of, option_of, with_word}
use Rattle.command_words.proofs.Parts.{some_value}
use Rattle.command_words.proofs.read_words.ReadWords.number.Goals as goal

pub unwrap-requires : goal.unwrap-requires
unwrap-requires c =
    let s = c.args.self.now in
    some_value (option_of c.args.option) (given_options (form_of s.kind) (with_word s.kind (map string_bytes s.words.now))) c.requires.default _ c.value.ensures.value
