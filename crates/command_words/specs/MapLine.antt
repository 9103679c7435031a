-- Which words are a command of the program `congestion_map`, and what it asks for. The words are three names and then options,
-- as everywhere; but an option here has a number as its value, or the name of a file, or it is a flag, which has no value.
use Rattle.std.specs.Prelude.{◌≡◌, ◌≤◌, ◌==◌, ◌&&◌, ◌||◌, ℕ, Bool, eqb, true, not, List, [], ◌∷◌, ◌++◌, Option, Some, None}
use Rattle.std.specs.Prelude.{codes, cond, drop, find, is_none, is_some, length, map, nat_le, option_map, slice_index_or, take}
use Rattle.std.specs.List.{ends_with, list_all}
use Rattle.std.specs.Str.{bytes_eq}
use Rattle.std.specs.Str.Parse.{digits_value}
use Rattle.command_words.specs.CommandLine.{all_differ, is_file_name, is_value_word}
use Rattle.command_words.specs.declared.map_form.MapForm.{MapForm}
use Rattle.command_words.specs.declared.map_form.MapForm.TheVariants.{Csv, Svg}
use Rattle.command_words.specs.declared.map_request.MapRequest.{MapRequest}

-- ---- the options

-- the name of a certificate, whose cut is shown
abbrev pub cut_word : List ℕ
cut_word = codes "--cut"

-- the number of the one layer that is shown
abbrev pub layer_word : List ℕ
layer_word = codes "--layer"

-- each layer has columns of its own
abbrev pub layers_word : List ℕ
layers_word = codes "--layers"

-- one map shows the greater of the two directions
abbrev pub greater_word : List ℕ
greater_word = codes "--greater"

-- no design has more layers
abbrev pub most_layer : ℕ
most_layer = 16

abbrev pub is_flag : List ℕ → Bool
is_flag word = bytes_eq word layers_word || bytes_eq word greater_word

abbrev pub is_layer : List ℕ → Bool
is_layer word = is_value_word word && (nat_le 1 (digits_value 10 word) && nat_le (digits_value 10 word) most_layer)

-- the words as options with their values: a flag has the empty word as its value, and any other word has the one behind it, or the
-- empty word where there is none; the empty word is no name and no number
abbrev pub map_options : List (List ℕ) → List (List ℕ × List ℕ)
map_options [] = []
map_options (word ∷ []) = (word, []) ∷ []
map_options (word ∷ value ∷ words) = cond (is_flag word) ((word, []) ∷ map_options (value ∷ words)) ((word, value) ∷ map_options words)

-- an option of the program, with a value that it may have
abbrev pub is_map_option : List ℕ × List ℕ → Bool
is_map_option given = (is_flag given.0 || (bytes_eq given.0 cut_word && is_file_name given.1))
    || (bytes_eq given.0 layer_word && is_layer given.1)

-- options of the program, each at most once
abbrev pub are_map_options : List (List ℕ × List ℕ) → Bool
are_map_options all = list_all is_map_option all && all_differ (map (λ given. given.0) all)

-- the value that is given for the option
abbrev pub given_for : List ℕ → List (List ℕ × List ℕ) → Option (List ℕ)
given_for word all = option_map (λ given. given.1) (find (λ given. bytes_eq word given.0) all)

-- ---- the words

abbrev pub is_picture_name : List ℕ → Bool
is_picture_name word = ends_with eqb word (codes ".svg")

abbrev pub is_table_name : List ℕ → Bool
is_table_name word = ends_with eqb word (codes ".csv")

abbrev pub map_names : List (List ℕ) → List (List ℕ)
map_names words = take 3 words

abbrev pub given_map_options : List (List ℕ) → List (List ℕ × List ℕ)
given_map_options words = map_options (drop 3 words)

abbrev pub cut_in : List (List ℕ) → Option (List ℕ)
cut_in words = given_for cut_word (given_map_options words)

abbrev pub in_list : Option (List ℕ) → List (List ℕ)
in_list None = []
in_list (Some word) = word ∷ []

-- three names of files, and the certificate's if there is one, which differ from each other
abbrev pub are_map_names : List (List ℕ) → Bool
are_map_names words = (length (map_names words) == 3)
    && (list_all is_file_name (map_names words) && all_differ (in_list (cut_in words) ++ map_names words))

abbrev pub is_layers_given : List (List ℕ) → Bool
is_layers_given words = is_some (given_for layers_word (given_map_options words))

abbrev pub is_greater_given : List (List ℕ) → Bool
is_greater_given words = is_some (given_for greater_word (given_map_options words))

abbrev pub map_name : List (List ℕ) → List ℕ
map_name words = slice_index_or words 2 []

-- a picture has no columns
abbrev pub is_of_picture : List (List ℕ) → Bool
is_of_picture words = is_picture_name (map_name words) && not (is_layers_given words)

-- and a table has columns alone
abbrev pub is_of_table : List (List ℕ) → Bool
is_of_table words = (is_table_name (map_name words) && not (is_greater_given words)) && is_none (cut_in words)

abbrev pub has_map_form : List (List ℕ) → Bool
has_map_form words = is_of_picture words || is_of_table words

-- the words are a command of the program
abbrev pub is_map_command : List (List ℕ) → Bool
is_map_command words = are_map_names words && (are_map_options (given_map_options words) && has_map_form words)

-- ---- what they ask for

-- what is asked for: a picture with the certificate of a cut, or none, and the greater of two directions, or both; or a table, with
-- columns for each layer or for all
pub data MapFormTask : Type 0 where
  PictureTask : Option (List ℕ) → Bool → MapFormTask
  TableTask : Bool → MapFormTask

-- the names, the one layer that is shown if it is one, and the form
pub record MapTask : Type 0 where
  pub input : List ℕ
  pub routes : List ℕ
  pub map : List ℕ
  pub layer : Option ℕ
  pub form : MapFormTask

abbrev pub form_task_of : MapForm → MapFormTask
form_task_of (Svg picture) = PictureTask (option_map (λ cut. cut.now) picture.cut) picture.greater
form_task_of (Csv table) = TableTask table.layers

-- what a request asks for
abbrev pub map_task_of : MapRequest → MapTask
map_task_of r = record { input = r.input.now; routes = r.routes.now; map = r.map.now; layer = r.layer; form = form_task_of r.form }

-- the form that words ask for
abbrev pub form_in : List (List ℕ) → MapFormTask
form_in words = cond (is_of_picture words) (PictureTask (cut_in words) (is_greater_given words)) (TableTask (is_layers_given words))

-- what words ask for
abbrev pub map_task_of_words : List (List ℕ) → MapTask
map_task_of_words words = record {
  input = slice_index_or words 0 [];
  routes = slice_index_or words 1 [];
  map = map_name words;
  layer = option_map (digits_value 10) (given_for layer_word (given_map_options words));
  form = form_in words;
}

-- the words ask for this map
pub record AsksForMap (words : List (List ℕ)) (request : MapRequest) : Type 0 where
  pub is_command : is_map_command words ≡ true
  pub task : map_task_of_words words ≡ map_task_of request

-- a design can have a layer of this number
abbrev pub IsLayerNumber : ℕ → Type 0
IsLayerNumber layer = (1 ≤ layer) × (layer ≤ most_layer)
