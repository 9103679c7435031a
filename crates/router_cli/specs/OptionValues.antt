-- What the words of a command say of its options.
use Rattle.std.specs.Prelude.{ℕ, List, Option, unwrap_or}
use Rattle.command_words.specs.CommandLine.{CommandForm, OptionForm, given_options, value_for}
use Rattle.command_words.specs.CommandLine.{cols_option, rows_option, layers_option, nets_option}
use Rattle.gr_make.specs.declared.shape.Shape.{Shape}

-- the value that words give an option, or its default
abbrev pub value_in : CommandForm → List (List ℕ) → OptionForm → Option ℕ
value_in form words option = value_for option (given_options form words)

-- how large a design is to be; each of these options has a default, so where the words are a command no value is missing
abbrev pub shape_in : CommandForm → List (List ℕ) → Shape
shape_in form words = record {
  cols = unwrap_or (value_in form words cols_option) 0;
  rows = unwrap_or (value_in form words rows_option) 0;
  layers = unwrap_or (value_in form words layers_option) 0;
  nets = unwrap_or (value_in form words nets_option) 0;
}
