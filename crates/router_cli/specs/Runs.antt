-- What the program promises: `run`, which `main` calls, ensures `IsRun` and nothing else.
--
-- Read in this order:
--   Headline     what a run of `route` that ends with status 0 has written and reported
--   RouterRuns   where the routes and the prices come from
--   Certified    what the certificate says of them
--   RouteRun     which files a run of `route` reads and makes
--   Tasks        what its words ask for, and OptionValues what words say of options
--   MakeRun      what a run of `make` has to leave, and
--   TrialRun     what a run of `trial` has: it never finds a no, and TextsMeet says what the judge has to say of its texts
--   ReportLines  the lines that `route` and `trial` report, byte for byte
-- then in `judge_cli`, where no word says how routes are found:
--   MeasureRun   what a run of `measure` says of routes, and
--   JudgeRun     what a run of `judge` says of routes and a certificate
--   AnswerLines  what these two have to leave, and its lines, byte for byte
-- in `guide_cli`:
--   GuideRun     what a run of `guide` writes and says, and when a design is refused that is not near
--   GuideLines   its lines, byte for byte
-- in `eco_cli`:
--   EcoRun       what a run of `eco` writes and says, and when an edit is refused
--   EcoInputs    what it reads, and EcoLines its lines, byte for byte
-- in `climb_cli`:
--   ClimbRun     what a run of `climb` writes and says
--   ClimbLines   its lines, byte for byte
-- and in `command_runs`, where no word says how they are judged:
--   CommandRun   what a run of any of the eight commands leaves on each status
--   Sources      the files that a command reads or makes
--   JudgedTexts  what the texts of routes, certificates and edits say
--   Refusals     why a run can be refused, and what it then says
--   Lines        the lines of refusals, byte for byte
--   Outputs      the files that a run makes
--   Traces       what a run does to the desk that it reads from and writes to
-- and in the crates below, as the names there lead: `CommandLine` of `command_words` for which words are a command, `Told` of
-- `gr_desk` for what a desk tells of itself.
--
-- A run of a command is one record (`IsCommandRun`) with one field for each of its promises: it says which files the command
-- reads and makes, and what outcome is right. A field of `IsRun` ties it to the words.
use Rattle.std.specs.Prelude.{◌≡◌, ◌⊎◌, ℕ, List, [], map, string_bytes, true, false}
use Rattle.std.specs.declared.string.String.{String}
use Rattle.gr_desk.specs.Told.{Told}
use Rattle.command_words.specs.CommandLine.{is_command, is_command_of, route_form, measure_form, judge_form, make_form, trial_form, eco_form, climb_form, guide_form}
use Rattle.command_runs.specs.declared.refusal.Refusal.{Refusal}
use Rattle.command_runs.specs.declared.refusal.Refusal.TheVariants.{NoCommand, NoMemory}
use Rattle.command_runs.specs.Lines.{status_of}
use Rattle.climb_cli.specs.ClimbRun.{IsClimbRun, climb_task_of_words}
use Rattle.eco_cli.specs.EcoRun.{IsEcoRun, eco_task_of_words}
use Rattle.guide_cli.specs.GuideRun.{IsGuideRun, guide_task_of_words}
use Rattle.judge_cli.specs.JudgeRun.{IsJudgeRun, judge_task_of_words}
use Rattle.router_cli.specs.MakeRun.{IsMakeRun, make_task_of_words}
use Rattle.judge_cli.specs.MeasureRun.{IsMeasureRun, measure_task_of_words}
use Rattle.router_cli.specs.RouteRun.{IsRouteRun}
use Rattle.router_cli.specs.Tasks.{task_of_words}
use Rattle.command_runs.specs.Traces.{ReportsRefusal, TouchesOnly}
use Rattle.router_cli.specs.TrialRun.{IsTrialRun, trial_task_of_words}

-- a run on words that are no command
pub record IsNoCommandRun (before after : Told) (status : ℕ) : Type 0 where
  -- the report says so, and how to call the program; or there was no memory to read the words
  pub refusal : Refusal
  pub is_refusal : (refusal ≡ NoCommand) ⊎ (refusal ≡ NoMemory)
  pub status_is : status ≡ status_of refusal
  pub says : ReportsRefusal before after refusal
  -- nothing is opened, created or read
  pub touches : TouchesOnly [] [] before after
  pub unread : after.in_faults ≡ before.in_faults
  -- no call comes out of order
  pub in_order : after.strayed ≡ before.strayed

-- a run of the program: on which words it began, what the desk told before and after it, and the status that it ended with
pub record IsRun {Z : Type 0} (words : List (String Z)) (before after : Told) (status : ℕ) : Type 0 where
  pub no_command : is_command (map string_bytes words) ≡ false → IsNoCommandRun before after status
  pub route : is_command_of (map string_bytes words) route_form ≡ true → IsRouteRun (task_of_words (map string_bytes words)) before after status
  pub measure : is_command_of (map string_bytes words) measure_form ≡ true → IsMeasureRun (measure_task_of_words (map string_bytes words)) before after status
  pub judge : is_command_of (map string_bytes words) judge_form ≡ true → IsJudgeRun (judge_task_of_words (map string_bytes words)) before after status
  pub make : is_command_of (map string_bytes words) make_form ≡ true → IsMakeRun (make_task_of_words (map string_bytes words)) before after status
  pub trial : is_command_of (map string_bytes words) trial_form ≡ true → IsTrialRun (trial_task_of_words (map string_bytes words)) before after status
  pub eco : is_command_of (map string_bytes words) eco_form ≡ true → IsEcoRun (eco_task_of_words (map string_bytes words)) before after status
  pub climb : is_command_of (map string_bytes words) climb_form ≡ true → IsClimbRun (climb_task_of_words (map string_bytes words)) before after status
  pub guide : is_command_of (map string_bytes words) guide_form ≡ true → IsGuideRun (guide_task_of_words (map string_bytes words)) before after status
