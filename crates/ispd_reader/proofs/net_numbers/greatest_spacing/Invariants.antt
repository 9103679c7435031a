use Rattle.std.proofs.Common.{◌≡◌, ◌≤◌, take}
use Rattle.grid_graph.specs.Grids.{layout_of}
use Rattle.grid_graph.specs.Limits.{max_demand}
use Rattle.ispd_reader.specs.Nets.{widest_spacing}
use Rattle.ispd_reader.proofs.net_numbers.greatest_spacing.Given as goal

abbrev pub invariant-loop-layer : goal.invariant-loop-layer
invariant-loop-layer l = (l.spacing ≡ widest_spacing (take l.layer (layout_of l.grid).spacings)) × (l.spacing ≤ max_demand)
