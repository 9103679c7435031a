-- The promise of the command `route`.
use Rattle.std.specs.Prelude.{ℕ, List, [], ◌∷◌}
use Rattle.gr_desk.specs.declared.port.Port.TheVariants.{RoutesOut, CertOut}
use Rattle.gr_desk.specs.Told.{Told}
use Rattle.command_runs.specs.CommandRun.{IsCommandRun}
use Rattle.command_runs.specs.Sources.{Source, design_source}
use Rattle.router_cli.specs.Headline.{IsRouteOutcome}
use Rattle.router_cli.specs.Tasks.{RouteTask}

-- the files that it makes, in this order
abbrev pub route_files : RouteTask → List Source
route_files q = record { port = RoutesOut; name = q.routes } ∷ record { port = CertOut; name = q.cert } ∷ []

-- a run of `route` with this task
abbrev pub IsRouteRun : RouteTask → Told → Told → ℕ → Type 0
IsRouteRun q before after status =
    IsCommandRun (design_source q.input) (route_files q) (IsRouteOutcome q.input q.settings before) before after status
