use Rattle.std.proofs.Common.{All, take}
use Rattle.std.specs.List.{Contains}
use Rattle.grid_base.specs.declared.vertex.Vertex.{Vertex}
use Rattle.grid_base.specs.Numbers.{IsInside, place_at}
use Rattle.steiner_span.proofs.nearest.Nearest.new.Given as goal

abbrev pub invariant-loop-terminal : goal.invariant-loop-terminal
invariant-loop-terminal g l = record {
  inside : All (IsInside l.size) l.left.items;
  listed : All (λ (v : Vertex). Contains l.left.items (place_at l.size v.0)) (take l.terminal-index l.terminals);
}
