use Rattle.std.proofs.Common.{◌≡◌, ◌∙◌, slice_index, ap, arith}
use Rattle.grid_graph.specs.Grids.{size_of}
use Rattle.straight_runs.specs.Runs.{run_end}
use Rattle.straight_runs.proofs.Counts.{counted_in_all}
use Rattle.straight_runs.proofs.line_counts.LineCounts.count_on.Goals as goal

pub overflow_sub-result : goal.overflow_sub-result
overflow_sub-result c =
    let s = size_of c.args.self.now.grid.now in
    let ends : c.end-end.result.0 ≡ run_end s c.args.run = c.end-end.ensures.value ∙ ap (λ size. run_end size c.args.run) c.size.ensures in
    omega (arith, ap (slice_index c.args.counts.now) ends, counted_in_all c.args.self.now.grid.now c.args.self.now.kind c.args.counts.now c.args.run c.requires.counts c.requires.run)

pub returns : goal.returns
returns c =
    let s = size_of c.args.self.now.grid.now in
    let ends : c.end-end.result.0 ≡ run_end s c.args.run = c.end-end.ensures.value ∙ ap (λ size. run_end size c.args.run) c.size.ensures in
    omega (arith, ap (slice_index c.args.counts.now) ends, counted_in_all c.args.self.now.grid.now c.args.self.now.kind c.args.counts.now c.args.run c.requires.counts c.requires.run)
