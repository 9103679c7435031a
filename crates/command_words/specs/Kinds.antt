-- The forms and options that the code knows by name.
use Rattle.std.specs.Prelude.{ℕ, Bool, List, [], ◌∷◌, cond, drop}
use Rattle.std.specs.Str.{bytes_eq}
use Rattle.command_words.specs.declared.kind.Kind.{Kind}
use Rattle.command_words.specs.declared.kind.Kind.TheVariants.{Grouter, Reroute, RerouteRoutes}
use Rattle.command_words.specs.declared.verb.Verb.{Verb}
use Rattle.command_words.specs.declared.verb.Verb.TheVariants.{Route, Measure, Judge, Make, Trial, Eco, Climb, Guide}
use Rattle.command_words.specs.declared.name_form.NameForm.{NameForm}
use Rattle.command_words.specs.declared.name_form.NameForm.TheVariants as names
use Rattle.command_words.specs.declared.option_name.OptionName.{OptionName}
use Rattle.command_words.specs.declared.option_name.OptionName.TheVariants.{Workers, Phases, Rounds, Seed, Budget}
use Rattle.command_words.specs.declared.option_name.OptionName.TheVariants.{Cols, Rows, Layers, Nets, Turns, RerouteRounds, Passes}
use Rattle.command_words.specs.CommandLine.{CommandForm, OptionForm, is_file_name, is_seed_name}
use Rattle.command_words.specs.CommandLine.{route_form, measure_form, judge_form, make_form, trial_form, eco_form, climb_form, guide_form}
use Rattle.command_words.specs.CommandLine.{workers_option, phases_option, rounds_option, seed_option, budget_option}
use Rattle.command_words.specs.CommandLine.{cols_option, rows_option, layers_option, nets_option, turns_option}
use Rattle.command_words.specs.RerouteLine.{passes_option, reroute_form, reroute_rounds_option, reroute_routes_form}

-- which words may be a name
abbrev pub name_test : NameForm → List ℕ → Bool
name_test names.File word = is_file_name word
name_test names.Seed word = is_seed_name word

abbrev pub verb_form : Verb → CommandForm
verb_form Route = route_form
verb_form Measure = measure_form
verb_form Judge = judge_form
verb_form Make = make_form
verb_form Trial = trial_form
verb_form Eco = eco_form
verb_form Climb = climb_form
verb_form Guide = guide_form

abbrev pub form_of : Kind → CommandForm
form_of (Grouter verb) = verb_form verb
form_of Reroute = reroute_form
form_of RerouteRoutes = reroute_routes_form

-- words behind the word of their form
abbrev pub with_word : Kind → List (List ℕ) → List (List ℕ)
with_word kind words = (form_of kind).word ∷ words

abbrev pub option_of : OptionName → OptionForm
option_of Workers = workers_option
option_of Phases = phases_option
option_of Rounds = rounds_option
option_of Seed = seed_option
option_of Budget = budget_option
option_of Cols = cols_option
option_of Rows = rows_option
option_of Layers = layers_option
option_of Nets = nets_option
option_of Turns = turns_option
option_of RerouteRounds = reroute_rounds_option
option_of Passes = passes_option

-- the option's word without the two hyphens
abbrev pub id_of : OptionName → List ℕ
id_of option = drop 2 (option_of option).word

abbrev pub verb_options : Verb → List OptionName
verb_options Route = Workers ∷ Phases ∷ Rounds ∷ Seed ∷ Budget ∷ []
verb_options Measure = []
verb_options Judge = []
verb_options Make = Seed ∷ Cols ∷ Rows ∷ Layers ∷ Nets ∷ []
verb_options Trial = Cols ∷ Rows ∷ Layers ∷ Nets ∷ []
verb_options Eco = []
verb_options Climb = Turns ∷ []
verb_options Guide = []

abbrev pub options_of : Kind → List OptionName
options_of (Grouter verb) = verb_options verb
options_of Reroute = RerouteRounds ∷ Passes ∷ Workers ∷ Seed ∷ []
options_of RerouteRoutes = RerouteRounds ∷ Passes ∷ Workers ∷ Seed ∷ []

abbrev pub named_in : List OptionName → List ℕ → OptionName
named_in [] word = Workers
named_in (option ∷ options) word = cond (bytes_eq word (option_of option).word) option (named_in options word)

-- the option of the form that has this word; two forms may each have an option of one word
abbrev pub option_named : Kind → List ℕ → OptionName
option_named kind word = named_in (options_of kind) word
