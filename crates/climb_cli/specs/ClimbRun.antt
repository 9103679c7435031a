-- The promise of the command `climb`.
use Rattle.std.specs.Prelude.{ℕ, List, [], ◌∷◌, Some, None, slice_index_or, unwrap_or}
use Rattle.cert_text.specs.declared.cert.Cert.{Cert}
use Rattle.climb_cli.specs.declared.climb_answer.ClimbAnswer.{ClimbAnswer}
use Rattle.climb_cli.specs.declared.climb_answer.ClimbAnswer.TheVariants.{Climbed, No}
use Rattle.climb_cli.specs.ClimbedCerts.{IsClimbedCert}
use Rattle.climb_cli.specs.ClimbLines.{climb_outcome}
use Rattle.command_runs.specs.AnsweredRun.{IsAnsweredRun}
use Rattle.command_runs.specs.Sources.{Source}
use Rattle.command_words.specs.CommandLine.{climb_form, given_options, names_in, turns_option, value_for}
use Rattle.command_words.specs.declared.climb_request.ClimbRequest.{ClimbRequest}
use Rattle.gr_desk.specs.declared.port.Port.TheVariants.{CertOut}
use Rattle.gr_desk.specs.Told.{Told}
use Rattle.grid_graph.specs.declared.design.Design.{Design}
use Rattle.grid_graph.specs.declared.ground.Ground.{Ground}
use Rattle.judge_cli.specs.JudgeRun.{IsReadCert, judge_sources}
use Rattle.judge_cli.specs.MeasureRun.{AreReadRoutes}
use Rattle.route_judge.specs.Judgements.{IsJudged}
use Rattle.route_text.specs.declared.block.Block.{Block}

-- ---- what its words ask for

-- the names of the design, of its routes, of their certificate and of the new one, and the number of turns
pub record ClimbTask : Type 0 where
  pub input : List ℕ
  pub routes : List ℕ
  pub cert : List ℕ
  pub climbed : List ℕ
  pub turns : ℕ

-- what a command asks for
abbrev pub climb_task_of : ClimbRequest → ClimbTask
climb_task_of r = record { input = r.input.now; routes = r.routes.now; cert = r.certificate.now; climbed = r.climbed.now; turns = r.turns }

-- what the words of `climb` ask for; the number of turns has a default, so where the words are a command it is not missing
abbrev pub climb_task_of_words : List (List ℕ) → ClimbTask
climb_task_of_words words = record {
  input = slice_index_or (names_in climb_form words) 0 [];
  routes = slice_index_or (names_in climb_form words) 1 [];
  cert = slice_index_or (names_in climb_form words) 2 [];
  climbed = slice_index_or (names_in climb_form words) 3 [];
  turns = unwrap_or (value_for turns_option (given_options climb_form words)) 0;
}

-- what it reads, in this order
abbrev pub climb_sources : ClimbTask → List Source
climb_sources q = judge_sources (record { input = q.input; routes = q.routes; cert = q.cert })

-- the file that it makes
abbrev pub climb_files : ClimbTask → List Source
climb_files q = record { port = CertOut; name = q.climbed } ∷ []

-- ---- what it leaves

-- the answer is true of a design, of blocks and of a certificate: another certificate where the judge accepts them, and else the
-- reason of the first objection that applies
abbrev pub IsTrueOfClimb : Design → List Ground → List Block → Cert → ℕ → ClimbAnswer → Type 0
IsTrueOfClimb d over blocks cert turns (Climbed new) = IsJudged d over blocks cert None × IsClimbedCert d over blocks cert turns new
IsTrueOfClimb d over blocks cert turns (No reason) = IsJudged d over blocks cert (Some reason)

-- the answer is true of what was read
pub record IsClimbAnswer (q : ClimbTask) (told : Told) (answer : ClimbAnswer) : Type 0 where
  pub design : Design
  pub grounds : List Ground
  pub blocks : List Block
  pub cert : Cert
  pub are_read : AreReadRoutes q.input q.routes told design grounds blocks
  pub cert_read : IsReadCert q.cert told cert
  pub is_true : IsTrueOfClimb design grounds blocks cert q.turns answer

-- ---- the promise

-- a run of `climb` with this task
abbrev pub IsClimbRun : ClimbTask → Told → Told → ℕ → Type 0
IsClimbRun q before after status = IsAnsweredRun (climb_sources q) (climb_files q) climb_outcome (IsClimbAnswer q before) before after status
