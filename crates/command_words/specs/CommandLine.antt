-- Which words are a command, and what it asks for. Read this file first: it knows nothing of how words are read.
--
-- Words are the arguments of the program, without the program's name, and each is a list of bytes. The first word is
-- the command. Then come its names, then its options, each of them a word with a value behind it.
use Rattle.std.specs.Prelude.{◌≡◌, ◌≤◌, ◌==◌, ◌&&◌, ◌-◌, ◌^◌, ℕ, Bool, true, false, not, List, [], ◌∷◌, map, length}
use Rattle.std.specs.Prelude.{Option, Some, None, IfSome, ⊤, codes, drop, find, nat_le, take}
use Rattle.std.specs.List.{list_all, list_any}
use Rattle.std.specs.Char.{is_ascii_digit}
use Rattle.std.specs.Str.{bytes_eq}
use Rattle.std.specs.Str.Parse.{digits_value}
use Rattle.command_words.specs.declared.command.Command.{Command}
use Rattle.command_words.specs.declared.command.Command.TheVariants.{Route, Measure, Judge, Make, Trial, Eco, Climb, Guide}
use Rattle.command_words.specs.declared.route_request.RouteRequest.{RouteRequest}
use Rattle.command_words.specs.declared.measure_request.MeasureRequest.{MeasureRequest}
use Rattle.command_words.specs.declared.judge_request.JudgeRequest.{JudgeRequest}
use Rattle.command_words.specs.declared.make_request.MakeRequest.{MakeRequest}
use Rattle.command_words.specs.declared.trial_request.TrialRequest.{TrialRequest}
use Rattle.command_words.specs.declared.eco_request.EcoRequest.{EcoRequest}
use Rattle.command_words.specs.declared.climb_request.ClimbRequest.{ClimbRequest}
use Rattle.command_words.specs.declared.guide_request.GuideRequest.{GuideRequest}

-- ---- names and values

-- a name is not empty and doesn't begin with `-`, which is 45
abbrev pub is_file_name : List ℕ → Bool
is_file_name [] = false
is_file_name (first ∷ _) = not (first == 45)

abbrev pub most_value_digits : ℕ
most_value_digits = 20

-- a value is digits alone, from one to so many
abbrev pub is_value_word : List ℕ → Bool
is_value_word word = nat_le 1 (length word) && (nat_le (length word) most_value_digits && list_all is_ascii_digit word)

abbrev pub most_seed : ℕ
most_seed = 2 ^ 64 - 1

-- a name that is a seed: like any name, it is not empty and doesn't begin with `-`
abbrev pub is_seed_name : List ℕ → Bool
is_seed_name word = is_value_word word && nat_le (digits_value 10 word) most_seed

-- ---- the commands and their options

-- an option: its word, the least and the greatest of its values, and the value where it isn't given
pub record OptionForm : Type 0 where
  pub word : List ℕ
  pub least : ℕ
  pub most : ℕ
  pub unless_given : Option ℕ

-- a command: its word, how many names follow it, which words may be one, and its options
pub record CommandForm : Type 0 where
  pub word : List ℕ
  pub names : ℕ
  pub is_name : List ℕ → Bool
  pub options : List OptionForm

abbrev pub workers_option : OptionForm
workers_option = record { word = codes "--workers"; least = 1; most = 8; unless_given = Some 1 }

abbrev pub phases_option : OptionForm
phases_option = record { word = codes "--phases"; least = 1; most = 16; unless_given = Some 4 }

abbrev pub rounds_option : OptionForm
rounds_option = record { word = codes "--rounds"; least = 0; most = 16; unless_given = Some 4 }

abbrev pub seed_option : OptionForm
seed_option = record { word = codes "--seed"; least = 0; most = most_seed; unless_given = Some 0 }

abbrev pub budget_option : OptionForm
budget_option = record { word = codes "--budget"; least = 1; most = 2 ^ 42; unless_given = None }

abbrev pub cols_option : OptionForm
cols_option = record { word = codes "--cols"; least = 2; most = 1024; unless_given = Some 16 }

abbrev pub rows_option : OptionForm
rows_option = record { word = codes "--rows"; least = 2; most = 1024; unless_given = Some 16 }

abbrev pub layers_option : OptionForm
layers_option = record { word = codes "--layers"; least = 2; most = 8; unless_given = Some 4 }

abbrev pub nets_option : OptionForm
nets_option = record { word = codes "--nets"; least = 0; most = 1048576; unless_given = Some 200 }

abbrev pub turns_option : OptionForm
turns_option = record { word = codes "--turns"; least = 1; most = 16; unless_given = Some 4 }

-- `route IN ROUTES CERT`
abbrev pub route_form : CommandForm
route_form = record {
  word = codes "route";
  names = 3;
  is_name = is_file_name;
  options = workers_option ∷ phases_option ∷ rounds_option ∷ seed_option ∷ budget_option ∷ [];
}

-- `measure IN ROUTES`
abbrev pub measure_form : CommandForm
measure_form = record { word = codes "measure"; names = 2; is_name = is_file_name; options = [] }

-- `judge IN ROUTES CERT`
abbrev pub judge_form : CommandForm
judge_form = record { word = codes "judge"; names = 3; is_name = is_file_name; options = [] }

-- `make OUT`
abbrev pub make_form : CommandForm
make_form = record {
  word = codes "make";
  names = 1;
  is_name = is_file_name;
  options = seed_option ∷ cols_option ∷ rows_option ∷ layers_option ∷ nets_option ∷ [];
}

-- `trial SEED`
abbrev pub trial_form : CommandForm
trial_form = record {
  word = codes "trial";
  names = 1;
  is_name = is_seed_name;
  options = cols_option ∷ rows_option ∷ layers_option ∷ nets_option ∷ [];
}

-- `eco IN ROUTES EDITS OUT`
abbrev pub eco_form : CommandForm
eco_form = record { word = codes "eco"; names = 4; is_name = is_file_name; options = [] }

-- `climb IN ROUTES CERT NEW`
abbrev pub climb_form : CommandForm
climb_form = record { word = codes "climb"; names = 4; is_name = is_file_name; options = turns_option ∷ [] }

-- `guide IN ROUTES GUIDES`
abbrev pub guide_form : CommandForm
guide_form = record { word = codes "guide"; names = 3; is_name = is_file_name; options = [] }

abbrev pub command_forms : List CommandForm
command_forms = route_form ∷ measure_form ∷ judge_form ∷ make_form ∷ trial_form ∷ eco_form ∷ climb_form ∷ guide_form ∷ []

-- ---- the parts of the words

abbrev pub begins_with : List ℕ → List (List ℕ) → Bool
begins_with word [] = false
begins_with word (first ∷ _) = bytes_eq first word

abbrev pub names_in : CommandForm → List (List ℕ) → List (List ℕ)
names_in form words = take form.names (drop 1 words)

-- the words behind the names
abbrev pub option_words : CommandForm → List (List ℕ) → List (List ℕ)
option_words form words = drop form.names (drop 1 words)

abbrev pub are_pairs : List (List ℕ) → Bool
are_pairs [] = true
are_pairs (_ ∷ []) = false
are_pairs (_ ∷ _ ∷ rest) = are_pairs rest

-- the words two by two: the word of an option, and its value
abbrev pub in_pairs : List (List ℕ) → List (List ℕ × List ℕ)
in_pairs [] = []
in_pairs (_ ∷ []) = []
in_pairs (option ∷ value ∷ rest) = (option, value) ∷ in_pairs rest

abbrev pub given_options : CommandForm → List (List ℕ) → List (List ℕ × List ℕ)
given_options form words = in_pairs (option_words form words)

-- ---- the shape of the words

abbrev pub has_option : CommandForm → List ℕ → Bool
has_option form word = list_any (λ option. bytes_eq word option.word) form.options

-- no two of the words are equal
abbrev pub all_differ : List (List ℕ) → Bool
all_differ [] = true
all_differ (word ∷ rest) = not (list_any (bytes_eq word) rest) && all_differ rest

-- so many names as the command has, each one a name, and different from each other
abbrev pub are_names : CommandForm → List (List ℕ) → Bool
are_names form words = (length words == form.names) && (list_all form.is_name words && all_differ words)

-- options of the command with their values, each option at most once
abbrev pub are_options : CommandForm → List (List ℕ) → Bool
are_options form words = are_pairs words
    && (list_all (λ given. has_option form given.0 && is_value_word given.1) (in_pairs words)
    && all_differ (map (λ given. given.0) (in_pairs words)))

-- the command's word, then its names, then options
abbrev pub has_shape : CommandForm → List (List ℕ) → Bool
has_shape form words = begins_with form.word words
    && (are_names form (names_in form words) && are_options form (option_words form words))

-- ---- what they ask for

-- the option is given with a value in its range
abbrev pub is_in_range : List ℕ × List ℕ → OptionForm → Bool
is_in_range given option = bytes_eq given.0 option.word
    && (nat_le option.least (digits_value 10 given.1) && nat_le (digits_value 10 given.1) option.most)

abbrev pub has_values_in_range : CommandForm → List (List ℕ) → Bool
has_values_in_range form words =
    list_all (λ given. list_any (is_in_range given) form.options) (given_options form words)

abbrev pub value_or : Option ℕ → Option (List ℕ × List ℕ) → Option ℕ
value_or otherwise None = otherwise
value_or otherwise (Some given) = Some (digits_value 10 given.1)

-- the value that is given for the option, or else what stands for it
abbrev pub value_for : OptionForm → List (List ℕ × List ℕ) → Option ℕ
value_for option all = value_or option.unless_given (find (λ given. bytes_eq given.0 option.word) all)

-- the words are this command
abbrev pub is_command_of : List (List ℕ) → CommandForm → Bool
is_command_of words form = has_shape form words && has_values_in_range form words

-- the words are a command
abbrev pub is_command : List (List ℕ) → Bool
is_command words = list_any (is_command_of words) command_forms

-- the words ask for this routing
pub record AsksForRoute (words : List (List ℕ)) (request : RouteRequest) : Type 0 where
  pub is_route : is_command_of words route_form ≡ true
  pub names : names_in route_form words ≡ request.input.now ∷ request.routes.now ∷ request.certificate.now ∷ []
  pub workers : value_for workers_option (given_options route_form words) ≡ Some request.workers
  pub phases : value_for phases_option (given_options route_form words) ≡ Some request.phases
  pub rounds : value_for rounds_option (given_options route_form words) ≡ Some request.rounds
  pub seed : value_for seed_option (given_options route_form words) ≡ Some request.seed
  pub budget : value_for budget_option (given_options route_form words) ≡ request.budget

-- the words ask for this measurement
pub record AsksForMeasure (words : List (List ℕ)) (request : MeasureRequest) : Type 0 where
  pub is_measure : is_command_of words measure_form ≡ true
  pub names : names_in measure_form words ≡ request.input.now ∷ request.routes.now ∷ []

-- the words ask for this judgement
pub record AsksForJudge (words : List (List ℕ)) (request : JudgeRequest) : Type 0 where
  pub is_judge : is_command_of words judge_form ≡ true
  pub names : names_in judge_form words ≡ request.input.now ∷ request.routes.now ∷ request.certificate.now ∷ []

-- the words ask for this design
pub record AsksForMake (words : List (List ℕ)) (request : MakeRequest) : Type 0 where
  pub is_make : is_command_of words make_form ≡ true
  pub names : names_in make_form words ≡ request.output.now ∷ []
  pub seed : value_for seed_option (given_options make_form words) ≡ Some request.seed
  pub cols : value_for cols_option (given_options make_form words) ≡ Some request.cols
  pub rows : value_for rows_option (given_options make_form words) ≡ Some request.rows
  pub layers : value_for layers_option (given_options make_form words) ≡ Some request.layers
  pub nets : value_for nets_option (given_options make_form words) ≡ Some request.nets

-- the words ask for this trial; its name is the seed, as a number
pub record AsksForTrial (words : List (List ℕ)) (request : TrialRequest) : Type 0 where
  pub is_trial : is_command_of words trial_form ≡ true
  pub seed : map (digits_value 10) (names_in trial_form words) ≡ request.seed ∷ []
  pub cols : value_for cols_option (given_options trial_form words) ≡ Some request.cols
  pub rows : value_for rows_option (given_options trial_form words) ≡ Some request.rows
  pub layers : value_for layers_option (given_options trial_form words) ≡ Some request.layers
  pub nets : value_for nets_option (given_options trial_form words) ≡ Some request.nets

-- the words ask for these edits
pub record AsksForEco (words : List (List ℕ)) (request : EcoRequest) : Type 0 where
  pub is_eco : is_command_of words eco_form ≡ true
  pub names : names_in eco_form words ≡ request.input.now ∷ request.routes.now ∷ request.edits.now ∷ request.edited.now ∷ []

-- the words ask for this climb
pub record AsksForClimb (words : List (List ℕ)) (request : ClimbRequest) : Type 0 where
  pub is_climb : is_command_of words climb_form ≡ true
  pub names : names_in climb_form words ≡ request.input.now ∷ request.routes.now ∷ request.certificate.now ∷ request.climbed.now ∷ []
  pub turns : value_for turns_option (given_options climb_form words) ≡ Some request.turns

-- the words ask for these guides
pub record AsksForGuide (words : List (List ℕ)) (request : GuideRequest) : Type 0 where
  pub is_guide : is_command_of words guide_form ≡ true
  pub names : names_in guide_form words ≡ request.input.now ∷ request.routes.now ∷ request.guides.now ∷ []

-- the words ask for this command
abbrev pub AsksFor : List (List ℕ) → Command → Type 0
AsksFor words (Route request) = AsksForRoute words request
AsksFor words (Measure request) = AsksForMeasure words request
AsksFor words (Judge request) = AsksForJudge words request
AsksFor words (Make request) = AsksForMake words request
AsksFor words (Trial request) = AsksForTrial words request
AsksFor words (Eco request) = AsksForEco words request
AsksFor words (Climb request) = AsksForClimb words request
AsksFor words (Guide request) = AsksForGuide words request

-- ---- what follows of a command's values

-- n lies in the option's range
abbrev pub IsOptionValue : OptionForm → ℕ → Type 0
IsOptionValue option n = (option.least ≤ n) × (n ≤ option.most)

pub record HasRouteRanges (request : RouteRequest) : Type 0 where
  pub workers : IsOptionValue workers_option request.workers
  pub phases : IsOptionValue phases_option request.phases
  pub rounds : IsOptionValue rounds_option request.rounds
  pub budget : IfSome request.budget (IsOptionValue budget_option)

pub record HasMakeRanges (request : MakeRequest) : Type 0 where
  pub cols : IsOptionValue cols_option request.cols
  pub rows : IsOptionValue rows_option request.rows
  pub layers : IsOptionValue layers_option request.layers
  pub nets : IsOptionValue nets_option request.nets

pub record HasTrialRanges (request : TrialRequest) : Type 0 where
  pub cols : IsOptionValue cols_option request.cols
  pub rows : IsOptionValue rows_option request.rows
  pub layers : IsOptionValue layers_option request.layers
  pub nets : IsOptionValue nets_option request.nets

pub record HasClimbRanges (request : ClimbRequest) : Type 0 where
  pub turns : IsOptionValue turns_option request.turns

-- each value of the command lies in its option's range
abbrev pub HasRanges : Command → Type 0
HasRanges (Route request) = HasRouteRanges request
HasRanges (Measure request) = ⊤
HasRanges (Judge request) = ⊤
HasRanges (Make request) = HasMakeRanges request
HasRanges (Trial request) = HasTrialRanges request
HasRanges (Eco request) = ⊤
HasRanges (Climb request) = HasClimbRanges request
HasRanges (Guide request) = ⊤
