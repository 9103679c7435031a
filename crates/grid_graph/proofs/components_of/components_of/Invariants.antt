use Rattle.std.proofs.Common.{◌≡◌, ℕ, ◌<◌, length, IsSome}
use Rattle.grid_base.specs.Numbers.{vertices}
use Rattle.grid_graph.specs.Grids.{Allows}
use Rattle.grid_graph.specs.Components.{component_of}
use Rattle.grid_graph.proofs.SpreadComponents.{AreSpread}
use Rattle.grid_graph.proofs.components_of.components_of.Given as goal

-- the components so far are spread, and the first vertices have one
abbrev pub invariant-loop-v : goal.invariant-loop-v
invariant-loop-v l = record {
  long : length l.components.numbers.items ≡ vertices l.size;
  spread : AreSpread l.size (Allows l.grid l.fn.over) (component_of l.components.numbers.items);
  numbered : (k : ℕ) → k < l.v → IsSome (component_of l.components.numbers.items k);
}
