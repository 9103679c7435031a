-- A command whose run has an answer, and leaves what the answer has to leave.
use Rattle.std.specs.Prelude.{◌≡◌, ℕ, List}
use Rattle.gr_desk.specs.Told.{Told}
use Rattle.command_runs.specs.CommandRun.{RunOutcome, IsCommandRun}
use Rattle.command_runs.specs.Sources.{Source}

-- the outcome is that of an answer which is right
abbrev pub AnswersRightly : {A : Type 0} → (A → RunOutcome) → (A → Type 0) → RunOutcome → Type 0
AnswersRightly {A = A} outcome_of IsRight outcome = (answer : A) × IsRight answer × (outcome ≡ outcome_of answer)

-- a run that reads files and makes others, in this order, and leaves the outcome of an answer which is right
abbrev pub IsAnsweredRun : {A : Type 0} → List Source → List Source → (A → RunOutcome) → (A → Type 0) → Told → Told → ℕ → Type 0
IsAnsweredRun read made outcome_of IsRight before after status =
    IsCommandRun read made (AnswersRightly outcome_of IsRight) before after status
