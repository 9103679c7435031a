-- The headline, in one page: what a run has to leave, by which a run that ends with status 0 has written and reported what it
-- found. Every other file of this folder says when a run ends so, and what it leaves where it doesn't.
--
-- Where the words lead: `AreReadRoutes` and `IsReadCert` of `judge_cli` are what the texts under the names say, `IsJudged` and
-- `route_objections` of `route_judge` the verdict on them with a certificate and without, `IsCertOfRoutes` of `judge_laws` the
-- certificate of routes alone, `IsFinding` beside this file what is found, `cert_text` of `cert_text` the text of the new
-- certificate, `finding_report` the report, and `reason_text` of `judge_cli` the line of a reason.
use Rattle.std.specs.Prelude.{◌≡◌, ℕ, List, [], ◌∷◌, true, false, Option, Some, None}
use Rattle.gr_desk.specs.Told.{Told}
use Rattle.grid_graph.specs.declared.design.Design.{Design}
use Rattle.grid_graph.specs.declared.ground.Ground.{Ground}
use Rattle.cert_text.specs.declared.cert.Cert.{Cert}
use Rattle.cert_text.specs.CertText.{cert_text}
use Rattle.judge_cli.specs.AnswerLines.{reason_text}
use Rattle.command_runs.specs.CommandRun.{RunOutcome}
use Rattle.judge_cli.specs.JudgeRun.{IsReadCert}
use Rattle.judge_cli.specs.MeasureRun.{AreReadRoutes}
use Rattle.judge_laws.specs.RoutesAlone.{IsCertOfRoutes}
use Rattle.route_judge.specs.declared.reason.Reason.{Reason}
use Rattle.route_judge.specs.Judgements.{IsJudged}
use Rattle.route_judge.specs.Objections.{Finds}
use Rattle.route_judge.specs.Orders.{AreRoutes, route_objections}
use Rattle.route_text.specs.declared.block.Block.{Block}
use Rattle.unavoidable_cli.specs.declared.outcome.Outcome.{Outcome}
use Rattle.unavoidable_cli.specs.declared.outcome.Outcome.TheVariants.{Found, Objected}
use Rattle.unavoidable_cli.specs.Findings.{IsFinding}
use Rattle.unavoidable_cli.specs.Report.{finding_report}
use Rattle.unavoidable_cli.specs.Words.{UnavoidableTask}

-- ---- what is read

-- the certificate under the name, where one is named
abbrev pub IsGivenCert : Option (List ℕ) → Told → Option Cert → Type 0
IsGivenCert (Some name) told (Some cert) = IsReadCert name told cert
IsGivenCert (Some name) told None = ⊥
IsGivenCert None told (Some cert) = ⊥
IsGivenCert None told None = Unit {0}

-- ---- what comes of it

-- the certificate that is begun with: the given one, where the judge accepts it with the blocks; and where none is given, that of
-- the routes alone, where nothing can be objected to the blocks
abbrev pub IsBegunWith : Design → List Ground → List Block → Option Cert → Cert → Type 0
IsBegunWith d over blocks (Some given) cert = (cert ≡ given) × IsJudged d over blocks given None
IsBegunWith d over blocks None cert = IsCertOfRoutes d over blocks cert × AreRoutes d blocks

-- the reason of the first objection that applies: to the blocks and the given certificate, or to the blocks alone
abbrev pub IsObjectedTo : Design → List Ground → List Block → Option Cert → Reason → Type 0
IsObjectedTo d over blocks (Some given) reason = IsJudged d over blocks given (Some reason)
IsObjectedTo d over blocks None reason = Finds d (route_objections d blocks) (Some reason)

-- what comes of a design, of blocks and maybe of a certificate: a finding, or else the reason against them
abbrev pub IsOutcomeOf : Design → List Ground → List Block → Option Cert → Outcome → Type 0
IsOutcomeOf d over blocks given (Found f) = (f.design ≡ d) × ((cert : Cert) × IsBegunWith d over blocks given cert × IsFinding over blocks cert f)
IsOutcomeOf d over blocks given (Objected reason) = IsObjectedTo d over blocks given reason

-- what comes of what the texts under the names say
pub record IsOutcome (q : UnavoidableTask) (told : Told) (outcome : Outcome) : Type 0 where
  pub design : Design
  pub grounds : List Ground
  pub blocks : List Block
  pub given : Option Cert
  pub are_read : AreReadRoutes q.input q.routes told design grounds blocks
  pub cert_read : IsGivenCert q.cert told given
  pub comes : IsOutcomeOf design grounds blocks given outcome

-- what it is written and reported as: the file of the new certificate, and the report; or the line of the reason, and no file
abbrev pub run_outcome : Outcome → RunOutcome
run_outcome (Found f) = record { texts = cert_text f.new ∷ []; report = finding_report f; objects = false }
run_outcome (Objected reason) = record { texts = []; report = reason_text reason; objects = true }

-- the texts are those of what comes of what was read
abbrev pub IsUnavoidableOutcome : UnavoidableTask → Told → RunOutcome → Type 0
IsUnavoidableOutcome q told left = (outcome : Outcome) × IsOutcome q told outcome × (left ≡ run_outcome outcome)
