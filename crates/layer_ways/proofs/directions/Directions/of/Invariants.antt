use Rattle.std.proofs.Common.{◌≡◌, length}
use Rattle.grid_base.specs.Numbers.{layers}
use Rattle.grid_graph.specs.Grids.{size_of}
use Rattle.layer_ways.proofs.directions.Directions.of.Given as goal

abbrev pub invariant-loop-v : goal.invariant-loop-v
invariant-loop-v l = length l.layers.items ≡ layers (size_of l.grid)
