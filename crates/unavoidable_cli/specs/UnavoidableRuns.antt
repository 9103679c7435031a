-- What the program `unavoidable` promises: `run_unavoidable`, which its `main` calls, ensures `IsWholeRun` and nothing else.
--
-- Read in this order:
--   FoundHeadline   what a run has to leave: what is found where the judge accepts the routes, and the certificate if there is one, and
--                   else the reason
--   Findings        what is true of what is found
--   UnavoidableRun  which files a run reads and makes
--   Words           which words are a command, and what they ask for
--   Report          the report, and
--   PricedEdges     its lines for edges
-- and in the crates below: `CommandRun` of `command_runs` for what a run leaves on each status, which is the same for every command,
-- `Refusals`, `Traces` and `Outputs` there for its words, and `LeastOverflow` and `WholeWires` of `dual_bound` and `Shown` of `overflow_bounds` for what a price list shows.
use Rattle.std.specs.Prelude.{◌≡◌, ℕ, List, [], map, string_bytes, true, false}
use Rattle.std.specs.declared.string.String.{String}
use Rattle.gr_desk.specs.Told.{Told}
use Rattle.command_runs.specs.declared.refusal.Refusal.TheVariants.{NoCommand}
use Rattle.command_runs.specs.Lines.{status_of}
use Rattle.command_runs.specs.Traces.{ReportsSince, TouchesOnly}
use Rattle.unavoidable_cli.specs.UnavoidableRun.{IsUnavoidableRun}
use Rattle.unavoidable_cli.specs.Words.{are_names, unavoidable_task_of_words, usage_text}

-- a run on words that are no command
pub record IsUsageRun (before after : Told) (status : ℕ) : Type 0 where
  pub status_is : status ≡ status_of NoCommand
  -- the report says how to call the program, as far as it can be written, and all of it where no write failed
  pub says : ReportsSince before.out_faults before after usage_text
  -- nothing is opened, created or read
  pub touches : TouchesOnly [] [] before after
  pub unread : after.in_faults ≡ before.in_faults
  -- no call comes out of order
  pub in_order : after.strayed ≡ before.strayed

-- a run of the program: on which words it began, what the desk told before and after it, and the status that it ended with
pub record IsWholeRun {Z : Type 0} (words : List (String Z)) (before after : Told) (status : ℕ) : Type 0 where
  pub no_command : are_names (map string_bytes words) ≡ false → IsUsageRun before after status
  pub command : are_names (map string_bytes words) ≡ true
      → IsUnavoidableRun (unavoidable_task_of_words (map string_bytes words)) before after status
