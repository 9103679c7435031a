-- Which words are a command of the program `reroute`, and what it asks for. The program has no other command, so no word names
-- it: its words are read as if its own name stood before them.
use Rattle.std.specs.Prelude.{◌≡◌, ◌==◌, ◌-◌, ◌||◌, ℕ, Bool, true, List, [], ◌∷◌, Option, Some, None, codes, cond, option_map}
use Rattle.std.specs.Prelude.{slice_index_or, unwrap_or}
use Rattle.command_words.specs.CommandLine.{CommandForm, IsOptionValue, OptionForm, given_options, is_command_of, is_file_name, names_in}
use Rattle.command_words.specs.CommandLine.{seed_option, value_for, workers_option}
use Rattle.command_words.specs.declared.reroute_request.RerouteRequest.{RerouteRequest}

abbrev pub reroute_rounds_option : OptionForm
reroute_rounds_option = record { word = codes "--rounds"; least = 0; most = 400; unless_given = Some 60 }

abbrev pub passes_option : OptionForm
passes_option = record { word = codes "--passes"; least = 0; most = 16; unless_given = Some 4 }

abbrev pub reroute_options : List OptionForm
reroute_options = reroute_rounds_option ∷ passes_option ∷ workers_option ∷ seed_option ∷ []

-- `reroute IN NEW`
abbrev pub reroute_form : CommandForm
reroute_form = record { word = codes "reroute"; names = 2; is_name = is_file_name; options = reroute_options }

-- `reroute IN ROUTES NEW`
abbrev pub reroute_routes_form : CommandForm
reroute_routes_form = record { word = codes "reroute"; names = 3; is_name = is_file_name; options = reroute_options }

-- the program's name and its words
abbrev pub reroute_words : List (List ℕ) → List (List ℕ)
reroute_words words = codes "reroute" ∷ words

-- the words are a command of the program
abbrev pub is_reroute : List (List ℕ) → Bool
is_reroute words = is_command_of (reroute_words words) reroute_routes_form || is_command_of (reroute_words words) reroute_form

-- ---- what they ask for

-- the names of the design, of the routes to begin with, where there are any, and of the routes to be written, and the settings
pub record RerouteTask : Type 0 where
  pub input : List ℕ
  pub routes : Option (List ℕ)
  pub output : List ℕ
  pub rounds : ℕ
  pub passes : ℕ
  pub workers : ℕ
  pub seed : ℕ

-- the value of an option; each one has a default, so where the words are a command none is missing
abbrev pub setting : CommandForm → List (List ℕ) → OptionForm → ℕ
setting form words option = unwrap_or (value_for option (given_options form words)) 0

-- what words of this form ask for; of three names the one in the middle is that of routes
abbrev pub reroute_task_in : CommandForm → List (List ℕ) → RerouteTask
reroute_task_in form words = record {
  input = slice_index_or (names_in form words) 0 [];
  routes = cond (form.names == 3) (Some (slice_index_or (names_in form words) 1 [])) None;
  output = slice_index_or (names_in form words) (form.names - 1) [];
  rounds = setting form words reroute_rounds_option;
  passes = setting form words passes_option;
  workers = setting form words workers_option;
  seed = setting form words seed_option;
}

-- the form with routes, where the words have it, and else the one without
abbrev pub reroute_form_of : List (List ℕ) → CommandForm
reroute_form_of words = cond (is_command_of (reroute_words words) reroute_routes_form) reroute_routes_form reroute_form

-- what words ask for
abbrev pub reroute_task_of_words : List (List ℕ) → RerouteTask
reroute_task_of_words words = reroute_task_in (reroute_form_of words) (reroute_words words)

-- what a request asks for
abbrev pub reroute_task_of : RerouteRequest → RerouteTask
reroute_task_of r = record {
  input = r.input.now;
  routes = option_map (λ routes. routes.now) r.routes;
  output = r.output.now;
  rounds = r.rounds;
  passes = r.passes;
  workers = r.workers;
  seed = r.seed;
}

-- the words ask for this routing
pub record AsksForReroute (words : List (List ℕ)) (request : RerouteRequest) : Type 0 where
  pub is_command : is_reroute words ≡ true
  pub task : reroute_task_of_words words ≡ reroute_task_of request

-- each value lies in its option's range
pub record HasRerouteRanges (request : RerouteRequest) : Type 0 where
  pub rounds : IsOptionValue reroute_rounds_option request.rounds
  pub passes : IsOptionValue passes_option request.passes
  pub workers : IsOptionValue workers_option request.workers
