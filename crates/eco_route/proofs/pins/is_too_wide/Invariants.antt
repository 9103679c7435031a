use Rattle.std.proofs.Common.{ℕ, ◌+◌, ◌<◌, ◌≤◌}
use Rattle.grid_graph.specs.Grids.{spacing_of_layer}
use Rattle.grid_graph.specs.Limits.{max_demand}
use Rattle.eco_route.proofs.pins.is_too_wide.Given as goal

-- on no layer so far
abbrev pub invariant-loop-layer : goal.invariant-loop-layer
invariant-loop-layer l = (k : ℕ) → k < l.layer → l.width + spacing_of_layer l.grid k ≤ max_demand
