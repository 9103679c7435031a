-- How an answer is left, and the ports of the files that are judged.
use Rattle.std.proofs.Common.{◌≡◌, ℕ, List, [], ◌∷◌, sym, ◌∙◌, subst, inl, inr}
use Rattle.gr_desk.specs.declared.port.Port.TheVariants.{In, RoutesIn, CertIn}
use Rattle.gr_desk.specs.Told.{Told}
use Rattle.command_runs.specs.Saying.{Leaves, Says}
use Rattle.command_runs.specs.Sources.{Source}
use Rattle.command_runs.proofs.EndedRuns.{left_files, left_none}
use Rattle.command_runs.proofs.LeftOutcomes.{leaves-text}
use Rattle.command_runs.proofs.ReadFiles.{AreApart}
use Rattle.command_runs.proofs.Traces.{contained_in_two, only_of}
use Rattle.judge_cli.specs.declared.answer.Answer.{Answer}
use Rattle.judge_cli.specs.AnswerLines.{answer_outcome, answer_text, is_objection}
use Rattle.judge_cli.specs.MeasureRun.{MeasureTask, measure_sources}

-- ---- what was said

-- an answer that was said is left
pub leaves-answer : (answer : Answer) (b c : Told) (status : ℕ) → Says (answer_text answer) (is_objection answer) b c status
    → Leaves (left_files (is_objection answer) []) (answer_outcome answer) b c status
leaves-answer answer b c status says = subst (λ (files : List Source). Leaves files (answer_outcome answer) b c status)
    (sym (left_none (is_objection answer))) (leaves-text (answer_text answer) (is_objection answer) b c status says)

-- ---- the ports of the files

pub in-apart : (input routes : List ℕ) → AreApart (record { port = In; name = input } ∷ []) (record { port = RoutesIn; name = routes } ∷ [])
in-apart input routes p at other = let same : In ≡ RoutesIn = sym (only_of p In at) ∙ only_of p RoutesIn other in cc

pub routed-apart : (q : MeasureTask) (cert : List ℕ) → AreApart (measure_sources q) (record { port = CertIn; name = cert } ∷ [])
routed-apart q cert p at other = elim (contained_in_two p In RoutesIn at) [
  | inl is ↦ (let same : In ≡ CertIn = sym is ∙ only_of p CertIn other in cc)
  | inr is ↦ (let same : RoutesIn ≡ CertIn = sym is ∙ only_of p CertIn other in cc)
]
