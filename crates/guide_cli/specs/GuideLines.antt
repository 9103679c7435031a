-- What `guide` says and writes.
use Rattle.std.specs.Prelude.{ℕ, List, [], ◌∷◌, codes, false, length}
use Rattle.guide_text.specs.GuideText.{guides_text}
use Rattle.command_runs.specs.CommandRun.{RunOutcome}
use Rattle.command_runs.specs.Lines.{line}
use Rattle.judge_cli.specs.declared.answer.Answer.TheVariants as answers
use Rattle.judge_cli.specs.AnswerLines.{answer_outcome}
use Rattle.guide_cli.specs.declared.guide_answer.GuideAnswer.{GuideAnswer}
use Rattle.guide_cli.specs.declared.guide_answer.GuideAnswer.TheVariants.{Guided, No}
use Rattle.guide_cli.specs.declared.guided_routes.GuidedRoutes.{GuidedRoutes}

-- how many guides were written
abbrev pub guided_text : GuidedRoutes → List ℕ
guided_text guided = line (codes "guides") (length guided.guides.items ∷ [])

-- what a run has to leave: the text of the guides, and these lines; or the reason against the routes
abbrev pub guide_outcome : GuideAnswer → RunOutcome
guide_outcome (Guided guided) = record { texts = guides_text guided.guides.items ∷ []; report = guided_text guided; objects = false }
guide_outcome (No reason) = answer_outcome (answers.No reason)

-- the status of a run on a design that is not near: that of an input that is no design
abbrev pub far_status : ℕ
far_status = 3

-- the number of that refusal
abbrev pub far_number : ℕ
far_number = 23

-- what is then said on the report
abbrev pub far_line : List ℕ
far_line = line (codes "refused") (far_status ∷ far_number ∷ [])
