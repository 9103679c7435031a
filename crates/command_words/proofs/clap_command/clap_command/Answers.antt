use Rattle.std.proofs.Common.{◌∙◌, List, ap₂, fold, map}
use Rattle.std.specs.Prelude.{codes}
use Rattle.std.proofs.lemmas.Result.{IfOk-weaker}
use Rattle.clap.specs.Words.{App, with_rule}
use Rattle.command_words.specs.declared.option_name.OptionName.{OptionName}
use Rattle.command_words.specs.Apps.{option_rule}
use Rattle.command_words.specs.Kinds.{options_of}
use Rattle.command_words.proofs.Rules.{app_is}
use Rattle.command_words.proofs.clap_command.clap_command.Goals as goal

pub returns : goal.returns
returns c = IfOk-weaker c.with_options.result _ _ (λ r made. made
    ∙ ap₂ (λ (a : App) (options : List OptionName). fold with_rule a (map option_rule options)) c.new.ensures.app c.options.ensures
    ∙ app_is (codes "grouter") (map option_rule (options_of c.args.kind))) c.with_options.ensures
