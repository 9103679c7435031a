use Rattle.std.proofs.Common.{sym}
use Rattle.grid_graph.specs.Grids.{size_of}
use Rattle.straight_runs.proofs.Counts.{no_edges}
use Rattle.straight_runs.proofs.line_counts.LineCounts.count.Goals as goal

pub returns-in-Up : goal.returns-in-Up
returns-in-Up c = sym (no_edges c.args.self.now.grid.now c.args.self.now.kind (size_of c.args.self.now.grid.now) c.args.run c.in-Up.is)
