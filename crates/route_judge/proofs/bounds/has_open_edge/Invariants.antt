use Rattle.std.proofs.Common.{◌≡◌, ℕ, ◌<◌}
use Rattle.grid_graph.specs.Grids.{capacity}
use Rattle.route_judge.proofs.bounds.has_open_edge.Given as goal

-- none of the edges so far is open
abbrev pub invariant-loop-e : goal.invariant-loop-e
invariant-loop-e l = (k : ℕ) → k < l.e → capacity l.grid k ≡ 0
