use Rattle.std.proofs.Common.{[], ◌∷◌}
use Rattle.gr_desk.specs.declared.port.Port.TheVariants.{RoutesIn}
use Rattle.command_runs.specs.Sources.{design_source}
use Rattle.command_runs.proofs.Bytes.{has-since}
use Rattle.command_runs.proofs.ReadFiles.{sources-early, sources-failed, sources-passed, sources-then}
use Rattle.judge_cli.proofs.JudgedRuns.{in-apart}
use Rattle.judge_cli.proofs.judged_files.read_routed.Goals as goal

pub returns-in_err-grounded-clause-reads : goal.returns-in_err-grounded-clause-reads
returns-in_err-grounded-clause-reads g c =
    let input = c.args.input.now in
    let routes = c.args.routes.now in
    sources-failed c.from_residual.result c.in_err-grounded.field-0.0 c.in_err-grounded.was c.from_residual.ensures.1
    (sources-early (design_source input) (record { port = RoutesIn; name = routes } ∷ []) c.read_grounded.result
    (in-apart input routes) c.in_err-grounded.was c.read_grounded.ensures.reads)

pub returns-in_err-blocks-clause-reads : goal.returns-in_err-blocks-clause-reads
returns-in_err-blocks-clause-reads g c =
    let input = c.args.input.now in
    let routes = c.args.routes.now in
    let x = c.from_residual-in_err-blocks in
    sources-then (design_source input) (record { port = RoutesIn; name = routes } ∷ []) x.result (in-apart input routes)
    c.in_ok-grounded.ensures.reads
    (sources-failed x.result c.in_err-blocks.field-0.0 c.in_err-blocks.was x.ensures.1 c.read_blocks.ensures.reads)

pub returns-clause-reads : goal.returns-clause-reads
returns-clause-reads g c =
    let input = c.args.input.now in
    let routes = c.args.routes.now in
    sources-then (design_source input) (record { port = RoutesIn; name = routes } ∷ []) _ (in-apart input routes)
    c.in_ok-grounded.ensures.reads (sources-passed _ c.in_ok-blocks.ensures.reads)

pub returns-clause-are_read : goal.returns-clause-are_read
returns-clause-are_read g c =
    let design = c.in_ok-grounded.ensures in
    record {
      named = design.named;
      grounds = design.grounds;
      blocks_are = has-since c.read_grounded.ensures.reads.reads.files c.in_ok-blocks.ensures.blocks;
    }
