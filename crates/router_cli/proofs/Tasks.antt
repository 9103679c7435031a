-- The tasks of words are those of the requests which they make.
use Rattle.std.proofs.Common.{◌≡◌, ℕ, List, [], ◌∷◌, ◌∙◌, ap, subst, ◌≤◌}
use Rattle.std.specs.Prelude.{Option, Some, None, IfSome, unwrap_or, slice_index_or}
use Rattle.command_words.specs.declared.make_request.MakeRequest.{MakeRequest}
use Rattle.command_words.specs.declared.route_request.RouteRequest.{RouteRequest}
use Rattle.command_words.specs.declared.trial_request.TrialRequest.{TrialRequest}
use Rattle.command_words.specs.CommandLine.{CommandForm, AsksForRoute, AsksForMake, AsksForTrial, HasRouteRanges, route_form, make_form, trial_form}
use Rattle.command_words.specs.CommandLine.{workers_option, phases_option, rounds_option, seed_option, budget_option, cols_option, rows_option, layers_option, nets_option}
use Rattle.std.specs.Option.{ForSome}
use Rattle.gr_make.specs.declared.shape.Shape.{Shape}
use Rattle.grid_graph.specs.Limits.{max_budget}
use Rattle.routing_stages.specs.Settings.{AreSettings}
use Rattle.router_cli.specs.Tasks.{RouteTask, settings_of, task_of, task_of_words}
use Rattle.router_cli.specs.MakeRun.{MakeTask, make_task_of, make_task_of_words}
use Rattle.router_cli.specs.OptionValues.{shape_in, value_in}
use Rattle.router_cli.specs.TrialRun.{TrialTask, trial_task_of, trial_task_of_words}

-- a task by its names and the values of its options
abbrev of_values : List (List ℕ) → Option ℕ → Option ℕ → Option ℕ → Option ℕ → Option ℕ → RouteTask
of_values names workers phases rounds seed budget = record {
  input = slice_index_or names 0 [];
  routes = slice_index_or names 1 [];
  cert = slice_index_or names 2 [];
  settings = record {
    workers = unwrap_or workers 0;
    phases = unwrap_or phases 0;
    rounds = unwrap_or rounds 0;
    seed = unwrap_or seed 0;
    budget = budget;
  };
}

pub task_of-asked : (words : List (List ℕ)) (r : RouteRequest) → AsksForRoute words r → task_of_words words ≡ task_of r
task_of-asked words r asks =
    let names : List (List ℕ) = r.input.now ∷ r.routes.now ∷ r.certificate.now ∷ [] in
    let phases = value_in route_form words phases_option in
    let rounds = value_in route_form words rounds_option in
    let seed = value_in route_form words seed_option in
    let budget = value_in route_form words budget_option in
    ap (λ (n : List (List ℕ)). of_values n (value_in route_form words workers_option) phases rounds seed budget) asks.names
    ∙ ap (λ (w : Option ℕ). of_values names w phases rounds seed budget) asks.workers
    ∙ ap (λ (p : Option ℕ). of_values names (Some r.workers) p rounds seed budget) asks.phases
    ∙ ap (λ (k : Option ℕ). of_values names (Some r.workers) (Some r.phases) k seed budget) asks.rounds
    ∙ ap (λ (s : Option ℕ). of_values names (Some r.workers) (Some r.phases) (Some r.rounds) s budget) asks.seed
    ∙ ap (λ (b : Option ℕ). of_values names (Some r.workers) (Some r.phases) (Some r.rounds) (Some r.seed) b) asks.budget

-- a shape by the values of its options
abbrev shape_of_values : Option ℕ → Option ℕ → Option ℕ → Option ℕ → Shape
shape_of_values cols rows layers nets = record { cols = unwrap_or cols 0; rows = unwrap_or rows 0; layers = unwrap_or layers 0; nets = unwrap_or nets 0 }

shape-asked : (form : CommandForm) (words : List (List ℕ)) (a b c d : ℕ) → value_in form words cols_option ≡ Some a → value_in form words rows_option ≡ Some b
    → value_in form words layers_option ≡ Some c → value_in form words nets_option ≡ Some d → shape_in form words ≡ record { cols = a; rows = b; layers = c; nets = d }
shape-asked form words a b c d is_a is_b is_c is_d =
    let value = value_in form words in
    ap (λ (o : Option ℕ). shape_of_values o (value rows_option) (value layers_option) (value nets_option)) is_a
    ∙ ap (λ (o : Option ℕ). shape_of_values (Some a) o (value layers_option) (value nets_option)) is_b
    ∙ ap (λ (o : Option ℕ). shape_of_values (Some a) (Some b) o (value nets_option)) is_c
    ∙ ap (λ (o : Option ℕ). shape_of_values (Some a) (Some b) (Some c) o) is_d

abbrev make_of_values : List (List ℕ) → Option ℕ → Shape → MakeTask
make_of_values names seed shape = record { output = slice_index_or names 0 []; seed = unwrap_or seed 0; shape = shape }

pub make_task-asked : (words : List (List ℕ)) (r : MakeRequest) → AsksForMake words r → make_task_of_words words ≡ make_task_of r
make_task-asked words r asks =
    let names : List (List ℕ) = r.output.now ∷ [] in
    let given = shape_in make_form words in
    ap (λ (n : List (List ℕ)). make_of_values n (value_in make_form words seed_option) given) asks.names
    ∙ ap (λ (s : Option ℕ). make_of_values names s given) asks.seed
    ∙ ap (make_of_values names (Some r.seed)) (shape-asked make_form words r.cols r.rows r.layers r.nets asks.cols asks.rows asks.layers asks.nets)

abbrev trial_of_values : List ℕ → Shape → TrialTask
trial_of_values seeds shape = record { seed = slice_index_or seeds 0 0; shape = shape }

pub trial_task-asked : (words : List (List ℕ)) (r : TrialRequest) → AsksForTrial words r → trial_task_of_words words ≡ trial_task_of r
trial_task-asked words r asks =
    ap (λ (s : List ℕ). trial_of_values s (shape_in trial_form words)) asks.seed
    ∙ ap (trial_of_values (r.seed ∷ [])) (shape-asked trial_form words r.cols r.rows r.layers r.nets asks.cols asks.rows asks.layers asks.nets)

-- what holds of the value that there may be
for_some : (b : Option ℕ) (P : ℕ → Type 0) → IfSome b P → ForSome b P
for_some None P holds = λ x is. cc
for_some (Some y) P holds = λ x is. (let same : y ≡ x = cc in subst P same holds)

-- the settings that a command asks for are within their limits
pub settings-in_range : (r : RouteRequest) → HasRouteRanges r → AreSettings (settings_of r)
settings-in_range r ranges = record {
  some_workers = ranges.workers.0;
  workers = ranges.workers.1;
  some_phases = ranges.phases.0;
  phases = ranges.phases.1;
  rounds = ranges.rounds.1;
  budget = for_some r.budget (λ most. (1 ≤ most) × (most ≤ max_budget)) ranges.budget;
}
