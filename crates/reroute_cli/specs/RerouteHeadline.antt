-- The headline, in one page: what a run has to leave, by which a run that ends with status 0 has written new routes and reported
-- what is true of them. Every other file of this folder says when a run ends so, and what it leaves where it doesn't.
--
-- Where the words lead: `AreReadRoutes` of `judge_cli` is what the texts under the names say, `all_block_objections` of `route_judge`
-- what can be objected to blocks that may lack nets, `AreNewRoutes` beside this file what is true of the new routes, `routes_text` of
-- `route_text` their text, `reroute_report_text` the report, and `reason_text` of `judge_cli` the line of a reason.
use Rattle.std.specs.Prelude.{ℕ, ◌≡◌, List, [], ◌∷◌, Option, true, false, Some, None}
use Rattle.command_runs.specs.CommandRun.{RunOutcome}
use Rattle.command_runs.specs.Sources.{HasBytes}
use Rattle.command_words.specs.RerouteLine.{RerouteTask}
use Rattle.gr_desk.specs.Told.{Told}
use Rattle.grid_graph.specs.declared.design.Design.{Design}
use Rattle.grid_graph.specs.declared.ground.Ground.{Ground}
use Rattle.grid_graph.specs.Grounds.{AreGrounds}
use Rattle.ispd_reader.specs.Designs.{IsDesignOfText}
use Rattle.judge_cli.specs.AnswerLines.{reason_text}
use Rattle.judge_cli.specs.MeasureRun.{AreReadRoutes}
use Rattle.negotiation.specs.declared.settings.RerouteSettings.{RerouteSettings}
use Rattle.route_judge.specs.Objections.{Finds}
use Rattle.route_judge.specs.Orders.{all_block_objections}
use Rattle.route_text.specs.declared.block.Block.{Block}
use Rattle.route_text.specs.RouteText.{routes_text}
use Rattle.reroute_cli.specs.declared.outcome.Outcome.{Outcome}
use Rattle.reroute_cli.specs.declared.outcome.Outcome.TheVariants.{Rerouted, Objected}
use Rattle.reroute_cli.specs.NewRoutes.{AreNewRoutes}
use Rattle.reroute_cli.specs.Report.{reroute_report_text}

-- ---- what is read

-- a design with its nets' grounds, and the blocks of the routes; none where no routes are named
abbrev pub AreRead : List ℕ → Option (List ℕ) → Told → Design → List Ground → List Block → Type 0
AreRead input (Some routes) told d over blocks = AreReadRoutes input routes told d over blocks
AreRead input None told d over blocks = HasBytes told.files input (λ bytes. IsDesignOfText bytes d) × AreGrounds d.grid d.nets over × (blocks ≡ [])

-- ---- what comes of it

-- the settings that are asked for
abbrev pub reroute_settings_of : RerouteTask → RerouteSettings
reroute_settings_of q = record { rounds = q.rounds; passes = q.passes; workers = q.workers; seed = q.seed }

-- new routes where nothing can be objected to the blocks, and else the reason of the first objection that applies
abbrev pub IsReroutedOr : Design → List Ground → List Block → RerouteSettings → Outcome → Type 0
IsReroutedOr d over blocks s (Rerouted new) =
    (new.design ≡ d) × Finds d (all_block_objections blocks) None × AreNewRoutes d over blocks s new
IsReroutedOr d over blocks s (Objected reason) = Finds d (all_block_objections blocks) (Some reason)

-- what comes of what the texts under the names say
pub record IsRerouteResult (q : RerouteTask) (told : Told) (outcome : Outcome) : Type 0 where
  pub design : Design
  pub grounds : List Ground
  pub blocks : List Block
  pub are_read : AreRead q.input q.routes told design grounds blocks
  pub comes : IsReroutedOr design grounds blocks (reroute_settings_of q) outcome

-- what it is written and reported as: the file of the new routes, and the report; or the line of the reason, and no file
abbrev pub rerouted_outcome : Outcome → RunOutcome
rerouted_outcome (Rerouted new) = record {
  texts = routes_text new.design.grid new.design.nets new.rerouted.trees ∷ [];
  report = reroute_report_text new.report;
  objects = false;
}
rerouted_outcome (Objected reason) = record { texts = []; report = reason_text reason; objects = true }

-- the texts are those of what comes of what was read
abbrev pub IsRerouteOutcome : RerouteTask → Told → RunOutcome → Type 0
IsRerouteOutcome q told left = (outcome : Outcome) × IsRerouteResult q told outcome × (left ≡ rerouted_outcome outcome)
