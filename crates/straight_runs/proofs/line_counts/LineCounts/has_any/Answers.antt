use Rattle.std.proofs.Common.{sym, arith}
use Rattle.grid_graph.specs.Grids.{size_of}
use Rattle.straight_runs.specs.LineCounts.{is_of_kind}
use Rattle.straight_runs.proofs.AnyOfKind.{none_more, none_of_all, some_of_run}
use Rattle.straight_runs.proofs.line_counts.LineCounts.has_any.Goals as goal

pub loop-run-preserved : goal.loop-run-preserved
loop-run-preserved c =
    none_more (size_of c.args.self.now.grid.now) (is_of_kind c.args.self.now.grid.now c.args.self.now.kind) c.args.runs.now c.loop-run.run-index c.loop-run-test.true c.loop-run.invariant
    (omega (arith, c.count.ensures, c.if-count-gt0.false))

pub returns-then-count-gt0 : goal.returns-then-count-gt0
returns-then-count-gt0 c =
    sym (some_of_run (size_of c.args.self.now.grid.now) (is_of_kind c.args.self.now.grid.now c.args.self.now.kind) c.args.runs.now c.loop-run.run-index c.loop-run-test.true
    (omega (arith, c.count.ensures, c.if-count-gt0.true)))

pub returns : goal.returns
returns c = none_of_all (size_of c.args.self.now.grid.now) (is_of_kind c.args.self.now.grid.now c.args.self.now.kind) c.args.runs.now c.loop-run.run-index c.loop-run-test.false c.loop-run.invariant
