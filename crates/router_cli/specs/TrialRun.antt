-- The promise of the command `trial`.
use Rattle.std.specs.Prelude.{◌≡◌, ◌++◌, ℕ, false, List, [], None, codes, map, slice_index_or}
use Rattle.std.specs.Str.Parse.{digits_value}
use Rattle.cert_text.specs.declared.cert.Cert.{Cert}
use Rattle.cert_text.specs.CertText.{cert_text}
use Rattle.command_words.specs.CommandLine.{names_in, trial_form}
use Rattle.command_words.specs.declared.trial_request.TrialRequest.{TrialRequest}
use Rattle.gr_desk.specs.Told.{Told}
use Rattle.gr_make.specs.declared.shape.Shape.{Shape}
use Rattle.gr_make.specs.MadeText.{made_text}
use Rattle.grid_graph.specs.declared.ground.Ground.{Ground}
use Rattle.grid_graph.specs.Grounds.{AreGrounds}
use Rattle.ispd_reader.specs.Designs.{IsDesignOfText}
use Rattle.routing_stages.specs.declared.settings.Settings.{Settings}
use Rattle.route_text.specs.RouteText.{routes_text}
use Rattle.command_runs.specs.CommandRun.{RunOutcome, IsCommandRun}
use Rattle.router_cli.specs.declared.routed_design.RoutedDesign.{RoutedDesign}
use Rattle.router_cli.specs.Headline.{IsRoutedDesign}
use Rattle.router_cli.specs.OptionValues.{shape_in}
use Rattle.router_cli.specs.ReportLines.{report_text}
use Rattle.router_cli.specs.TextsMeet.{TextsMeet}

-- ---- what its words ask for

-- the seed of the design and of the run, and how large the design is
pub record TrialTask : Type 0 where
  pub seed : ℕ
  pub shape : Shape

-- what a command asks for
abbrev pub trial_task_of : TrialRequest → TrialTask
trial_task_of r = record { seed = r.seed; shape = record { cols = r.cols; rows = r.rows; layers = r.layers; nets = r.nets } }

-- what the words of `trial` ask for
abbrev pub trial_task_of_words : List (List ℕ) → TrialTask
trial_task_of_words words = record {
  seed = slice_index_or (map (digits_value 10) (names_in trial_form words)) 0 0;
  shape = shape_in trial_form words;
}

-- the design is routed by one worker in four phases, and repaired in four rounds at most
abbrev pub trial_settings : ℕ → Settings
trial_settings seed = record { workers = 1; phases = 4; rounds = 4; seed = seed; budget = None }

-- ---- what it leaves

-- the lines of `route`, and that the judge accepts the texts
abbrev pub trial_text : ℕ → ℕ → Cert → List ℕ
trial_text rounded rounds cert = report_text rounded rounds cert ++ codes "judge yes\n"

-- what a run has to leave that routed this design
abbrev pub tried_outcome : RoutedDesign → RunOutcome
tried_outcome r = record { texts = []; report = trial_text r.rounded r.rounds r.cert; objects = false }

-- the text reports a run of the router on the design that is made from the seed, and that the judge accepts its texts, which is so
pub record IsTrialOutcome (q : TrialTask) (outcome : RunOutcome) : Type 0 where
  pub routed : RoutedDesign
  pub named : IsDesignOfText (made_text q.seed q.shape) routed.design
  pub is_true : IsRoutedDesign (trial_settings q.seed) routed
  pub grounds : List Ground
  pub are_grounds : AreGrounds routed.design.grid routed.design.nets grounds
  pub meet : TextsMeet routed.design grounds (routes_text routed.design.grid routed.design.nets routed.trees) (cert_text routed.cert) routed.cert
  pub outcome_is : outcome ≡ tried_outcome routed

-- ---- the promise

-- a run of `trial` with this task: it reads and makes no file, and the design that is made is never refused
abbrev pub IsTrialRun : TrialTask → Told → Told → ℕ → Type 0
IsTrialRun q before after status = IsCommandRun [] [] (IsTrialOutcome q) before after status
