use Rattle.std.proofs.Common.{sym, refl, subst}
use Rattle.command_runs.specs.declared.refusal.Refusal.TheVariants.{NoMemory}
use Rattle.command_runs.specs.Sources.{HasBytes}
use Rattle.command_runs.proofs.ReadFiles.{sources-failed, sources-memory, sources-passed}
use Rattle.grid_graph.specs.declared.design.Design.{Design}
use Rattle.ispd_reader.specs.Designs.{IsDesignOfText}
use Rattle.router_cli.proofs.prepared.prepare.Goals as goal

pub returns-in_err-design-clause-reads : goal.returns-in_err-design-clause-reads
returns-in_err-design-clause-reads g c =
    sources-failed c.from_residual.result c.in_err-design.field-0.0 c.in_err-design.was c.from_residual.ensures.1
    c.read_grounded.ensures.reads

pub returns-in_err-route_design-clause-reads : goal.returns-in_err-route_design-clause-reads
returns-in_err-route_design-clause-reads g c =
    let x = c.from_residual-in_err-route_design in
    sources-failed x.result NoMemory refl x.ensures.1 (sources-memory c.in_ok-design.ensures.reads)

pub returns-clause-reads : goal.returns-clause-reads
returns-clause-reads g c = sources-passed _ c.in_ok-design.ensures.reads

pub returns-clause-named : goal.returns-clause-named
returns-clause-named g c =
    subst (λ (d : Design). HasBytes (g.D.Desk.told c.args.desk.now).files c.args.name.now (λ bytes. IsDesignOfText bytes d))
    (sym c.in_ok-route_design.ensures.design) c.in_ok-design.ensures.named
