-- What the program `congestion_map` promises: `run_map`, which its `main` calls, ensures `IsWholeMapRun` and nothing else.
--
-- Read in this order:
--   MapHeadline   what a run has to leave: a drawing of the routes' loads and the report, or an objection
--   MapSources    which files a run reads and makes
--   MapRun        the promise of a run on words that are a command
--   Drawings      the text of a drawing
-- and in the crates below: `MapLine` of `command_words` for which words are a command, `CommandRun` of `command_runs` for what a run
-- leaves on each status, and `TileUses`, `Classes`, `Cells` and `Rasters` of `congestion_cells` for what a cell shows.
use Rattle.std.specs.Prelude.{◌≡◌, ℕ, List, [], map, string_bytes, true, false, codes}
use Rattle.std.specs.declared.string.String.{String}
use Rattle.gr_desk.specs.Told.{Told}
use Rattle.command_runs.specs.declared.refusal.Refusal.TheVariants.{NoCommand}
use Rattle.command_runs.specs.Lines.{status_of}
use Rattle.command_runs.specs.Traces.{ReportsSince, TouchesOnly}
use Rattle.command_words.specs.MapLine.{is_map_command, map_task_of_words}
use Rattle.congestion_cli.specs.MapRun.{IsMapRun}

-- what is said where the words are no command
abbrev pub map_usage_text : List ℕ
map_usage_text = codes "refused 2\nusage: congestion_map IN ROUTES MAP [--cut CERT] [--layer L] [--layers] [--greater]\n"

-- a run on words that are no command
pub record IsMapUsageRun (before after : Told) (status : ℕ) : Type 0 where
  pub status_is : status ≡ status_of NoCommand
  -- the report says how to call the program, as far as it can be written, and all of it where no write failed
  pub says : ReportsSince before.out_faults before after map_usage_text
  -- nothing is opened, created or read
  pub touches : TouchesOnly [] [] before after
  pub unread : after.in_faults ≡ before.in_faults
  -- no call comes out of order
  pub in_order : after.strayed ≡ before.strayed

-- a run of the program: on which words it began, what the desk told before and after it, and the status that it ended with
pub record IsWholeMapRun {Z : Type 0} (words : List (String Z)) (before after : Told) (status : ℕ) : Type 0 where
  pub no_command : is_map_command (map string_bytes words) ≡ false → IsMapUsageRun before after status
  pub command : is_map_command (map string_bytes words) ≡ true
      → IsMapRun (map_task_of_words (map string_bytes words)) before after status
