use Rattle.std.proofs.Common.{◌≡◌, ◌<◌, take}
use Rattle.std.specs.List.{All}
use Rattle.grid_base.specs.Numbers.{vertices}
use Rattle.grid_graph.specs.Grids.{size_of}
use Rattle.grid_graph.specs.Terms.{numbers}
use Rattle.eco_route.specs.PinPlaces.{pin_vertices}
use Rattle.eco_route.proofs.pins.vertices_of.Given as goal

-- the vertices of the pins so far
abbrev pub invariant-loop-i : goal.invariant-loop-i
invariant-loop-i l = record {
  placed : numbers l.found.items ≡ pin_vertices l.grid (take l.i l.pins);
  within : All (λ v. v < vertices (size_of l.grid)) (numbers l.found.items);
}
