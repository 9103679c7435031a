-- The commands as clap's definitions see them.
use Rattle.std.specs.Prelude.{◌≡◌, ℕ, List, [], ◌∷◌, Option, Some, None, codes, true, drop, map}
use Rattle.clap.specs.Words.{App, Row, Rule, matches_of, new_app, new_rule}
use Rattle.clap.specs.declared.builder.action.ArgAction.TheVariants.{Set}
use Rattle.clap.specs.declared.builder.value_parser.ValueParser.{ValueParser}
use Rattle.clap.specs.declared.builder.value_parser.ValueParser.TheVariants as vp
use Rattle.command_words.specs.declared.kind.Kind.{Kind}
use Rattle.command_words.specs.declared.option_name.OptionName.{OptionName}
use Rattle.command_words.specs.declared.option_name.OptionName.TheVariants.{Workers, Phases, Rounds, Seed, Budget}
use Rattle.command_words.specs.declared.option_name.OptionName.TheVariants.{Cols, Rows, Layers, Nets, Turns, RerouteRounds, Passes}
use Rattle.command_words.specs.CommandLine.{has_shape, has_values_in_range}
use Rattle.command_words.specs.Kinds.{form_of, id_of, option_of, options_of}

-- an option with one value
abbrev pub value_rule : List ℕ → ValueParser → Rule
value_rule name values = record (new_rule name) { long = Some name; action = Some Set; parser = Some values }

-- what stands for an option that isn't given
abbrev pub default_text : OptionName → Option (List ℕ)
default_text Workers = Some (codes "1")
default_text Phases = Some (codes "4")
default_text Rounds = Some (codes "4")
default_text Seed = Some (codes "0")
default_text Budget = None
default_text Cols = Some (codes "16")
default_text Rows = Some (codes "16")
default_text Layers = Some (codes "4")
default_text Nets = Some (codes "200")
default_text Turns = Some (codes "4")
default_text RerouteRounds = Some (codes "60")
default_text Passes = Some (codes "4")

abbrev pub in_list : Option (List ℕ) → List (List ℕ)
in_list None = []
in_list (Some text) = text ∷ []

abbrev pub option_rule : OptionName → Rule
option_rule option = record (value_rule (id_of option) (vp.Unsigned (option_of option).least (option_of option).most)) {
  defaults = in_list (default_text option);
}

-- a command of one level with these arguments
abbrev pub app_with : List ℕ → List Rule → App
app_with word rules = record (new_app word) { top = record (new_app word).top { rules = rules } }

-- the options of the command; its names are no part of it
abbrev pub app_of_kind : Kind → App
app_of_kind kind = app_with (codes "grouter") (map option_rule (options_of kind))

-- what clap finds of the options in the words behind the names, before which one more word stands
unfoldable pub found_in : Kind → List (List ℕ) → List Row
found_in kind words = matches_of (app_of_kind kind) (drop (form_of kind).names words)

-- the words have the command's shape and values in range, and this was found in them
pub record AreReadWords (kind : Kind) (words : List (List ℕ)) (rows : List Row) : Type 0 where
  pub shaped : has_shape (form_of kind) words ≡ true
  pub in_range : has_values_in_range (form_of kind) words ≡ true
  pub found : rows ≡ found_in kind words
