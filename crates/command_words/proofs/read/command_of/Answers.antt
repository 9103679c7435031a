use Rattle.std.proofs.Common.{◌≡◌, List, subst, true}
use Rattle.clap.specs.Words.{Text}
use Rattle.command_words.specs.CommandLine.{has_shape}
use Rattle.command_words.specs.Kinds.{verb_form}
use Rattle.command_words.proofs.Commands.{asked_of, has_word, parted_words, refused_of}
use Rattle.command_words.proofs.read.command_of.Goals as goal

pub words_from-requires : goal.words_from-requires
words_from-requires c = has_word c.in-Some.verb c.args.words.now c.in-Some.ensures

pub command_of_verb-requires : goal.command_of_verb-requires
command_of_verb-requires c =
    subst (λ (words : List Text). has_shape (verb_form c.in-Some.verb) words ≡ true)
    (parted_words c.in-Some.verb c.args.words.now c.words_from.result.now c.words_from.ensures c.in-Some.ensures) c.in-Some.ensures

pub returns-in-Some-clause-asked : goal.returns-in-Some-clause-asked
returns-in-Some-clause-asked c = asked_of _ _ _ (parted_words c.in-Some.verb c.args.words.now c.words_from.result.now c.words_from.ensures c.in-Some.ensures) c.command_of_verb.ensures.asked

pub returns-in-Some-clause-refused : goal.returns-in-Some-clause-refused
returns-in-Some-clause-refused c =
    refused_of _ c.in-Some.verb _ _ (parted_words c.in-Some.verb c.args.words.now c.words_from.result.now c.words_from.ensures c.in-Some.ensures) c.in-Some.ensures c.command_of_verb.ensures.refused
