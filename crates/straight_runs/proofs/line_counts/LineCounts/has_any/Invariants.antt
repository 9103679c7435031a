use Rattle.std.proofs.Common.{◌≡◌, false, take}
use Rattle.std.specs.List.{list_any}
use Rattle.grid_graph.specs.Grids.{size_of}
use Rattle.straight_runs.specs.LineCounts.{is_of_kind}
use Rattle.straight_runs.specs.Runs.{pieces_of}
use Rattle.straight_runs.proofs.line_counts.LineCounts.has_any.Given as goal

-- none of the runs so far has one
abbrev pub invariant-loop-run : goal.invariant-loop-run
invariant-loop-run l = list_any (is_of_kind l.self.grid.now l.self.kind) (pieces_of (size_of l.self.grid.now) (take l.run-index l.runs)) ≡ false
