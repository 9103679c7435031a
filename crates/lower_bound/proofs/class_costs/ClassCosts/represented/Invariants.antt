use Rattle.std.proofs.Common.{◌≡◌, take}
use Rattle.grid_graph.specs.Grids.{size_of}
use Rattle.grid_graph.specs.TilePieces.{tiles_of}
use Rattle.lower_bound.specs.Representatives.{represented}
use Rattle.lower_bound.proofs.class_costs.ClassCosts.represented.Given as goal

-- those of the terminals so far
abbrev pub invariant-loop-terminal : goal.invariant-loop-terminal
invariant-loop-terminal l = l.tiles.items ≡ represented l.self.representatives.of.parents.items (tiles_of (size_of l.self.grid.now) (take l.terminal-index l.terminals))
