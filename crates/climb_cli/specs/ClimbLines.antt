-- What `climb` says and writes.
use Rattle.std.specs.Prelude.{ℕ, List, [], ◌∷◌, ◌++◌, codes, false}
use Rattle.cert_text.specs.CertText.{cert_text, fraction_text, labelled}
use Rattle.climb_cli.specs.declared.climb_answer.ClimbAnswer.{ClimbAnswer}
use Rattle.climb_cli.specs.declared.climb_answer.ClimbAnswer.TheVariants.{Climbed, No}
use Rattle.climb_cli.specs.declared.climbed_cert.ClimbedCert.{ClimbedCert}
use Rattle.command_runs.specs.CommandRun.{RunOutcome}
use Rattle.command_runs.specs.Lines.{line}
use Rattle.judge_cli.specs.declared.answer.Answer.TheVariants as answers
use Rattle.judge_cli.specs.AnswerLines.{answer_outcome}

-- which candidate is answered, and its bound
abbrev pub climbed_text : ClimbedCert → List ℕ
climbed_text new = line (codes "turn") (new.turn ∷ []) ++ labelled (codes "bound") (fraction_text new.cert.bound)

-- what a run has to leave: the text of the new certificate, and these lines; or the reason against routes and certificate
abbrev pub climb_outcome : ClimbAnswer → RunOutcome
climb_outcome (Climbed new) = record { texts = cert_text new.cert ∷ []; report = climbed_text new; objects = false }
climb_outcome (No reason) = answer_outcome (answers.No reason)
