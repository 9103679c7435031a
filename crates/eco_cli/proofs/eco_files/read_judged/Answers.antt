use Rattle.std.proofs.Common.{refl}
use Rattle.command_runs.specs.declared.refusal.Refusal.TheVariants.{NoMemory}
use Rattle.command_runs.proofs.ReadFiles.{sources-failed, sources-memory}
use Rattle.eco_cli.specs.EcoInputs.{routed_sources}
use Rattle.eco_cli.specs.EcoRun.{eco_task_of}
use Rattle.eco_cli.proofs.eco_files.read_judged.Goals as goal

pub returns-in_err-grounded-clause-reads : goal.returns-in_err-grounded-clause-reads
returns-in_err-grounded-clause-reads g c =
    sources-failed c.from_residual.result c.in_err-grounded.field-0.0 c.in_err-grounded.was c.from_residual.ensures.1 c.read_routed.ensures.reads

pub returns-in_err-trees-clause-reads : goal.returns-in_err-trees-clause-reads
returns-in_err-trees-clause-reads g c =
    let q = eco_task_of c.args.request.now in
    sources-failed c.from_residual-in_err-trees.result NoMemory refl c.from_residual-in_err-trees.ensures.1 (sources-memory {sources = routed_sources q} c.in_ok-grounded.ensures.reads)

pub returns-clause-judged : goal.returns-clause-judged
returns-clause-judged g c =
    record {
      design = c.in_ok-grounded.field-0.grounded.design;
      grounds = c.in_ok-grounded.field-0.grounded.grounds.items;
      blocks = c.in_ok-grounded.field-0.blocks;
      are_read = c.in_ok-grounded.ensures.are_read;
      found = rw c.in-No.is at c.in_ok-trees.ensures.first;
    }
