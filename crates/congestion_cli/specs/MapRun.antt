-- The promise of a run, where its words are a command.
use Rattle.std.specs.Prelude.{ℕ}
use Rattle.gr_desk.specs.Told.{Told}
use Rattle.command_runs.specs.CommandRun.{IsCommandRun}
use Rattle.command_words.specs.MapLine.{MapTask}
use Rattle.congestion_cli.specs.MapHeadline.{IsMapOutcome}
use Rattle.congestion_cli.specs.MapSources.{map_files, map_sources}

-- a run with this task
abbrev pub IsMapRun : MapTask → Told → Told → ℕ → Type 0
IsMapRun q before after status = IsCommandRun (map_sources q) (map_files q) (IsMapOutcome q before) before after status
