-- The promise of a run, where its words are a command.
use Rattle.std.specs.Prelude.{ℕ, List, [], ◌∷◌, Option, Some, None}
use Rattle.command_runs.specs.CommandRun.{IsCommandRun}
use Rattle.command_runs.specs.Sources.{Source, design_source}
use Rattle.command_words.specs.RerouteLine.{RerouteTask}
use Rattle.gr_desk.specs.declared.port.Port.TheVariants.{RoutesOut}
use Rattle.gr_desk.specs.Told.{Told}
use Rattle.judge_cli.specs.MeasureRun.{measure_sources}
use Rattle.reroute_cli.specs.RerouteHeadline.{IsRerouteOutcome}

-- what it reads: the design, and then the routes, where some are named
abbrev pub reroute_sources : List ℕ → Option (List ℕ) → List Source
reroute_sources input (Some routes) = measure_sources (record { input = input; routes = routes })
reroute_sources input None = design_source input

-- the file that it makes: the new routes
abbrev pub reroute_files : RerouteTask → List Source
reroute_files q = record { port = RoutesOut; name = q.output } ∷ []

-- a run with this task
abbrev pub IsRerouteRun : RerouteTask → Told → Told → ℕ → Type 0
IsRerouteRun q before after status =
    IsCommandRun (reroute_sources q.input q.routes) (reroute_files q) (IsRerouteOutcome q before) before after status
