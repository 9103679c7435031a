use Rattle.std.proofs.Common.{List, ℕ, Option, ◌∷◌, Err, refl, subst}
use Rattle.gr_desk.specs.declared.port.Port.TheVariants.{In, RoutesIn}
use Rattle.command_runs.specs.Steps.{ReadsSources}
use Rattle.command_runs.proofs.ReadFiles.{sources-failed}
use Rattle.congestion_cli.specs.declared.map_input.MapInput.{MapInput}
use Rattle.congestion_cli.specs.MapSources.{cut_source}
use Rattle.congestion_cli.proofs.map_input.read_map_input.Goals as goal

pub returns-in-Err-clause-reads : goal.returns-in-Err-clause-reads
returns-in-Err-clause-reads g c =
    let told = g.D.Desk.told in
    let r = c.args.request.now in
    let refusal = c.in-Err.refusal in
    subst (λ (cut : Option (List ℕ)). ReadsSources {T = MapInput} (record { port = In; name = r.input.now } ∷ record { port = RoutesIn; name = r.routes.now } ∷ cut_source cut)
    (told c.args.desk.now) (told c.read_routed.new.desk) (Err refusal))
    c.in-None.ensures (sources-failed (Err refusal) refusal refl refl c.in-Err.ensures.reads)

pub returns-in-Err-read_certified-clause-reads : goal.returns-in-Err-read_certified-clause-reads
returns-in-Err-read_certified-clause-reads g c =
    let told = g.D.Desk.told in
    let r = c.args.request.now in
    let refusal = c.in-Err-read_certified.refusal in
    subst (λ (cut : Option (List ℕ)). ReadsSources {T = MapInput} (record { port = In; name = r.input.now } ∷ record { port = RoutesIn; name = r.routes.now } ∷ cut_source cut)
    (told c.args.desk.now) (told c.read_certified.new.desk) (Err refusal))
    c.in-Some.ensures (sources-failed (Err refusal) refusal refl refl c.in-Err-read_certified.ensures.reads)
