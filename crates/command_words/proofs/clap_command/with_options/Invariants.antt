use Rattle.std.proofs.Common.{◌≡◌, drop, fold, map}
use Rattle.clap.specs.Words.{app_of, with_rule}
use Rattle.command_words.specs.Apps.{option_rule}
use Rattle.command_words.proofs.clap_command.with_options.Given as goal

abbrev pub invariant-loop-option : goal.invariant-loop-option
invariant-loop-option l = fold with_rule (app_of l.command) (map option_rule (drop l.option-index l.options))
    ≡ fold with_rule (app_of l.fn.command) (map option_rule l.options)
