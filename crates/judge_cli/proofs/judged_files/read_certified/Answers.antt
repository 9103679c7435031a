use Rattle.std.proofs.Common.{[], ◌∷◌}
use Rattle.gr_desk.specs.declared.port.Port.TheVariants.{CertIn}
use Rattle.command_runs.proofs.Bytes.{has-since}
use Rattle.command_runs.proofs.ReadFiles.{sources-early, sources-failed, sources-passed, sources-then}
use Rattle.judge_cli.specs.MeasureRun.{MeasureTask, measure_sources}
use Rattle.judge_cli.proofs.JudgedRuns.{routed-apart}
use Rattle.judge_cli.proofs.judged_files.read_certified.Goals as goal

pub returns-in_err-routed-clause-reads : goal.returns-in_err-routed-clause-reads
returns-in_err-routed-clause-reads g c =
    let q : MeasureTask = record { input = c.args.input.now; routes = c.args.routes.now } in
    let name = c.args.certificate.now in
    sources-failed c.from_residual.result c.in_err-routed.field-0.0 c.in_err-routed.was c.from_residual.ensures.1
    (sources-early (measure_sources q) (record { port = CertIn; name = name } ∷ []) c.read_routed.result
    (routed-apart q name) c.in_err-routed.was c.read_routed.ensures.reads)

pub returns-in_err-cert-clause-reads : goal.returns-in_err-cert-clause-reads
returns-in_err-cert-clause-reads g c =
    let q : MeasureTask = record { input = c.args.input.now; routes = c.args.routes.now } in
    let name = c.args.certificate.now in
    let x = c.from_residual-in_err-cert in
    sources-then (measure_sources q) (record { port = CertIn; name = name } ∷ []) x.result (routed-apart q name)
    c.in_ok-routed.ensures.reads
    (sources-failed x.result c.in_err-cert.field-0.0 c.in_err-cert.was x.ensures.1 c.read_certificate.ensures.reads)

pub returns-clause-reads : goal.returns-clause-reads
returns-clause-reads g c =
    let q : MeasureTask = record { input = c.args.input.now; routes = c.args.routes.now } in
    let name = c.args.certificate.now in
    sources-then (measure_sources q) (record { port = CertIn; name = name } ∷ []) _ (routed-apart q name)
    c.in_ok-routed.ensures.reads (sources-passed _ c.in_ok-cert.ensures.reads)

pub returns-clause-cert : goal.returns-clause-cert
returns-clause-cert g c = has-since c.read_routed.ensures.reads.reads.files c.in_ok-cert.ensures.cert
