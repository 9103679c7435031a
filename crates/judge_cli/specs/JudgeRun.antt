-- The promise of the command `judge`.
use Rattle.std.specs.Prelude.{◌≡◌, ◌≤◌, ℕ, List, [], ◌∷◌, length, Option, Some, None, slice_index_or}
use Rattle.cert_text.specs.declared.cert.Cert.{Cert}
use Rattle.cert_text.specs.Certs.{IsCertOf}
use Rattle.command_words.specs.CommandLine.{names_in, judge_form}
use Rattle.command_words.specs.declared.judge_request.JudgeRequest.{JudgeRequest}
use Rattle.gr_desk.specs.declared.port.Port.TheVariants.{In, RoutesIn, CertIn}
use Rattle.gr_desk.specs.Told.{Told}
use Rattle.grid_graph.specs.declared.design.Design.{Design}
use Rattle.grid_graph.specs.declared.ground.Ground.{Ground}
use Rattle.route_text.specs.declared.block.Block.{Block}
use Rattle.route_judge.specs.Judgements.{IsJudged, StatesBound}
use Rattle.edge_prices.specs.declared.budget.Budget.{Budget}
use Rattle.fractions.specs.declared.fraction.Fraction.{Fraction}
use Rattle.edge_prices.specs.Budgets.{most_of}
use Rattle.judge_cli.specs.declared.answer.Answer.{Answer}
use Rattle.judge_cli.specs.declared.answer.Answer.TheVariants.{Measured, Yes, No}
use Rattle.judge_cli.specs.AnswerLines.{answer_outcome}
use Rattle.judge_cli.specs.declared.routes_report.RoutesReport.{RoutesReport}
use Rattle.command_runs.specs.AnsweredRun.{IsAnsweredRun}
use Rattle.ispd_reader.specs.Limits.{max_bytes}
use Rattle.judge_cli.specs.MeasureRun.{AreReadRoutes, IsReportOf}
use Rattle.command_runs.specs.Sources.{Source, HasBytes}

-- ---- what its words ask for

-- the names of the design, of the routes and of the certificate
pub record JudgeTask : Type 0 where
  pub input : List ℕ
  pub routes : List ℕ
  pub cert : List ℕ

-- what a command asks for
abbrev pub judge_task_of : JudgeRequest → JudgeTask
judge_task_of r = record { input = r.input.now; routes = r.routes.now; cert = r.certificate.now }

-- what the words of `judge` ask for
abbrev pub judge_task_of_words : List (List ℕ) → JudgeTask
judge_task_of_words words = record {
  input = slice_index_or (names_in judge_form words) 0 [];
  routes = slice_index_or (names_in judge_form words) 1 [];
  cert = slice_index_or (names_in judge_form words) 2 [];
}

-- what it reads, in this order
abbrev pub judge_sources : JudgeTask → List Source
judge_sources q =
    record { port = In; name = q.input } ∷ record { port = RoutesIn; name = q.routes } ∷ record { port = CertIn; name = q.cert } ∷ []

-- ---- what it says

-- the certificate that the bytes of the file have
abbrev pub IsReadCert : List ℕ → Told → Cert → Type 0
IsReadCert name told cert = HasBytes told.files name (λ bytes. (length bytes ≤ max_bytes) × IsCertOf bytes cert)

-- routes and a certificate are accepted: nothing can be objected to them, the report is that of the routes with the certificate's
-- budget, and what is stated is the certificate's bound, which is at most the greatest load/capacity of every routing, whole
-- or mixed
pub record AreAcceptedWith (d : Design) (over : List Ground) (blocks : List Block) (cert : Cert) (report : RoutesReport) (bound : Option Fraction) (budget : Option Budget) : Type 0 where
  pub judged : IsJudged d over blocks cert None
  pub reported : IsReportOf d over blocks (most_of cert.budget) report
  pub bound_is : bound ≡ cert.bound
  pub budget_is : budget ≡ cert.budget
  pub bounds : StatesBound d cert

-- the answer is true of a design, of blocks and of a certificate: a yes where nothing can be objected to them, and else the
-- reason of the first objection that applies
abbrev pub IsTrueOfCert : Design → List Ground → List Block → Cert → Answer → Type 0
IsTrueOfCert d over blocks cert (Measured report) = ⊥
IsTrueOfCert d over blocks cert (Yes report bound budget) = AreAcceptedWith d over blocks cert report bound budget
IsTrueOfCert d over blocks cert (No reason) = IsJudged d over blocks cert (Some reason)

-- the answer is true of what was read
pub record IsJudgeAnswer (q : JudgeTask) (told : Told) (answer : Answer) : Type 0 where
  pub design : Design
  pub grounds : List Ground
  pub blocks : List Block
  pub cert : Cert
  pub are_read : AreReadRoutes q.input q.routes told design grounds blocks
  pub cert_read : IsReadCert q.cert told cert
  pub is_true : IsTrueOfCert design grounds blocks cert answer

-- ---- the promise

-- a run of `judge` with this task
abbrev pub IsJudgeRun : JudgeTask → Told → Told → ℕ → Type 0
IsJudgeRun q before after status = IsAnsweredRun (judge_sources q) [] answer_outcome (IsJudgeAnswer q before) before after status
