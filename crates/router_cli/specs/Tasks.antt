-- What a run of `route` is to do.
use Rattle.std.specs.Prelude.{ℕ, List, [], unwrap_or, slice_index_or}
use Rattle.command_words.specs.CommandLine.{names_in, route_form, workers_option, phases_option, rounds_option, seed_option, budget_option}
use Rattle.command_words.specs.declared.route_request.RouteRequest.{RouteRequest}
use Rattle.routing_stages.specs.declared.settings.Settings.{Settings}
use Rattle.router_cli.specs.OptionValues.{value_in}

-- the names of the input and of the two files to be made, and the settings
pub record RouteTask : Type 0 where
  pub input : List ℕ
  pub routes : List ℕ
  pub cert : List ℕ
  pub settings : Settings

-- the settings that a command asks for
abbrev pub settings_of : RouteRequest → Settings
settings_of r = record { workers = r.workers; phases = r.phases; rounds = r.rounds; seed = r.seed; budget = r.budget }

-- what a command asks for
abbrev pub task_of : RouteRequest → RouteTask
task_of r = record { input = r.input.now; routes = r.routes.now; cert = r.certificate.now; settings = settings_of r }

-- what the words of `route` ask for; each option but the budget has a default, so where they are a command no value is missing
abbrev pub task_of_words : List (List ℕ) → RouteTask
task_of_words words = record {
  input = slice_index_or (names_in route_form words) 0 [];
  routes = slice_index_or (names_in route_form words) 1 [];
  cert = slice_index_or (names_in route_form words) 2 [];
  settings = record {
    workers = unwrap_or (value_in route_form words workers_option) 0;
    phases = unwrap_or (value_in route_form words phases_option) 0;
    rounds = unwrap_or (value_in route_form words rounds_option) 0;
    seed = unwrap_or (value_in route_form words seed_option) 0;
    budget = value_in route_form words budget_option;
  };
}
