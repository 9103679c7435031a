-- The promise of a run, where its words are a command.
use Rattle.std.specs.Prelude.{ℕ, List, [], ◌∷◌, Option, Some, None}
use Rattle.gr_desk.specs.declared.port.Port.TheVariants.{In, RoutesIn, CertIn, CertOut}
use Rattle.gr_desk.specs.Told.{Told}
use Rattle.command_runs.specs.CommandRun.{IsCommandRun}
use Rattle.command_runs.specs.Sources.{Source}
use Rattle.unavoidable_cli.specs.FoundHeadline.{IsUnavoidableOutcome}
use Rattle.unavoidable_cli.specs.Words.{UnavoidableTask}

-- the certificate to begin with, where one is named
abbrev pub cert_sources : Option (List ℕ) → List Source
cert_sources None = []
cert_sources (Some name) = record { port = CertIn; name = name } ∷ []

-- what it reads, in the order of `measure` and of `judge`: the design, the routes, and then the certificate
abbrev pub unavoidable_sources : UnavoidableTask → List Source
unavoidable_sources q = record { port = In; name = q.input } ∷ record { port = RoutesIn; name = q.routes } ∷ cert_sources q.cert

-- the file that it makes: the new certificate
abbrev pub unavoidable_files : UnavoidableTask → List Source
unavoidable_files q = record { port = CertOut; name = q.new } ∷ []

-- a run with this task
abbrev pub IsUnavoidableRun : UnavoidableTask → Told → Told → ℕ → Type 0
IsUnavoidableRun q before after status =
    IsCommandRun (unavoidable_sources q) (unavoidable_files q) (IsUnavoidableOutcome q before) before after status
