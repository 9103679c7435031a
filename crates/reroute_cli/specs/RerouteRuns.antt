-- What the program `reroute` promises: `run_reroute`, which its `main` calls, ensures `IsProgramRun` and nothing else.
--
-- Read in this order:
--   RerouteHeadline  what a run has to leave: new routes where nothing can be objected to the given ones, and else the reason
--   NewRoutes        what is true of the new routes
--   RerouteRun       which files a run reads and makes
--   Report           the report
-- and in the crates below: `RerouteLine` of `command_words` for which words are a command and what they ask for, `Rerouted` of
-- `negotiation` for how the new sets stand to the given ones, `BlockSets` of `route_judge` for what blocks give the nets, and
-- `CommandRun` of `command_runs` for what a run leaves on each status, which is the same for every command.
use Rattle.std.specs.Prelude.{◌≡◌, ◌⊎◌, ℕ, List, [], map, string_bytes, true, false}
use Rattle.std.specs.declared.string.String.{String}
use Rattle.command_runs.specs.declared.refusal.Refusal.TheVariants.{NoCommand, NoMemory}
use Rattle.command_runs.specs.Lines.{status_of}
use Rattle.command_runs.specs.Traces.{ReportsRefusal, ReportsSince, TouchesOnly}
use Rattle.command_words.specs.RerouteLine.{is_reroute, reroute_task_of_words}
use Rattle.gr_desk.specs.Told.{Told}
use Rattle.reroute_cli.specs.RerouteRun.{IsRerouteRun}
use Rattle.reroute_cli.specs.Usage.{reroute_usage}

-- a run on words that are no command
pub record IsUncalledRun (before after : Told) (status : ℕ) : Type 0 where
  -- the report says how to call the program, as far as it can be written; or there was no memory to read the words
  pub says : (status ≡ status_of NoCommand) × ReportsSince before.out_faults before after reroute_usage
      ⊎ (status ≡ status_of NoMemory) × ReportsRefusal before after NoMemory
  -- nothing is opened, created or read
  pub touches : TouchesOnly [] [] before after
  pub unread : after.in_faults ≡ before.in_faults
  -- no call comes out of order
  pub in_order : after.strayed ≡ before.strayed

-- a run of the program: on which words it began, what the desk told before and after it, and the status that it ended with
pub record IsProgramRun {Z : Type 0} (words : List (String Z)) (before after : Told) (status : ℕ) : Type 0 where
  pub no_command : is_reroute (map string_bytes words) ≡ false → IsUncalledRun before after status
  pub command : is_reroute (map string_bytes words) ≡ true → IsRerouteRun (reroute_task_of_words (map string_bytes words)) before after status
