-- The promise of the command `measure`.
use Rattle.std.specs.Prelude.{◌≡◌, ℕ, List, [], ◌∷◌, length, Option, Some, None, Ok, slice_index_or}
use Rattle.command_words.specs.CommandLine.{names_in, measure_form}
use Rattle.command_words.specs.declared.measure_request.MeasureRequest.{MeasureRequest}
use Rattle.gr_desk.specs.declared.port.Port.TheVariants.{In, RoutesIn}
use Rattle.gr_desk.specs.Told.{Told}
use Rattle.grid_graph.specs.declared.design.Design.{Design}
use Rattle.grid_graph.specs.declared.ground.Ground.{Ground}
use Rattle.grid_graph.specs.Grounds.{AreGrounds}
use Rattle.ispd_reader.specs.Designs.{IsDesignOfText}
use Rattle.route_text.specs.declared.block.Block.{Block}
use Rattle.route_judge.specs.Counts.{forced_count}
use Rattle.route_judge.specs.Measured.{AreMeasured}
use Rattle.route_judge.specs.Objections.{Finds}
use Rattle.route_judge.specs.Orders.{route_objections, AreRoutes}
use Rattle.judge_cli.specs.declared.answer.Answer.{Answer}
use Rattle.judge_cli.specs.declared.answer.Answer.TheVariants.{Measured, Yes, No}
use Rattle.judge_cli.specs.AnswerLines.{answer_outcome}
use Rattle.judge_cli.specs.declared.routes_report.RoutesReport.{RoutesReport}
use Rattle.command_runs.specs.AnsweredRun.{IsAnsweredRun}
use Rattle.command_runs.specs.JudgedTexts.{blocks_or_refusal}
use Rattle.command_runs.specs.Sources.{Source, HasBytes}

-- ---- what its words ask for

-- the names of the design and of the routes
pub record MeasureTask : Type 0 where
  pub input : List ℕ
  pub routes : List ℕ

-- what a command asks for
abbrev pub measure_task_of : MeasureRequest → MeasureTask
measure_task_of r = record { input = r.input.now; routes = r.routes.now }

-- what the words of `measure` ask for
abbrev pub measure_task_of_words : List (List ℕ) → MeasureTask
measure_task_of_words words = record {
  input = slice_index_or (names_in measure_form words) 0 [];
  routes = slice_index_or (names_in measure_form words) 1 [];
}

-- what it reads, in this order
abbrev pub measure_sources : MeasureTask → List Source
measure_sources q = record { port = In; name = q.input } ∷ record { port = RoutesIn; name = q.routes } ∷ []

-- ---- what it says

-- a design with its nets' grounds, and blocks: those that the bytes of the two files say
pub record AreReadRoutes (input routes : List ℕ) (told : Told) (d : Design) (over : List Ground) (blocks : List Block) : Type 0 where
  pub named : HasBytes told.files input (λ bytes. IsDesignOfText bytes d)
  pub grounds : AreGrounds d.grid d.nets over
  pub blocks_are : HasBytes told.files routes (λ bytes. blocks_or_refusal bytes ≡ Ok blocks)

-- the counts of nets and of forced nets, the measure of the sets that the blocks give the nets, with or without a budget, and
-- how many nets go beyond their grounds
pub record IsReportOf (d : Design) (over : List Ground) (blocks : List Block) (budget : Option ℕ) (report : RoutesReport) : Type 0 where
  pub nets : report.nets ≡ length d.nets
  pub forced : report.forced ≡ forced_count over
  pub measured : AreMeasured d over blocks budget report.measure report.beyond

-- the answer is true of a design and of blocks: a report of routes, where nothing can be objected to them, and else the reason
-- of the first objection that applies
abbrev pub IsTrueOfRoutes : Design → List Ground → List Block → Answer → Type 0
IsTrueOfRoutes d over blocks (Measured report) = AreRoutes d blocks × IsReportOf d over blocks None report
IsTrueOfRoutes d over blocks (Yes report bound budget) = ⊥
IsTrueOfRoutes d over blocks (No reason) = Finds d (route_objections d blocks) (Some reason)

-- the answer is true of what was read
pub record IsMeasureAnswer (q : MeasureTask) (told : Told) (answer : Answer) : Type 0 where
  pub design : Design
  pub grounds : List Ground
  pub blocks : List Block
  pub are_read : AreReadRoutes q.input q.routes told design grounds blocks
  pub is_true : IsTrueOfRoutes design grounds blocks answer

-- ---- the promise

-- a run of `measure` with this task
abbrev pub IsMeasureRun : MeasureTask → Told → Told → ℕ → Type 0
IsMeasureRun q before after status = IsAnsweredRun (measure_sources q) [] answer_outcome (IsMeasureAnswer q before) before after status
