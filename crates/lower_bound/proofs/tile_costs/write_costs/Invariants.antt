use Rattle.std.proofs.Common.{ℕ, ◌≡◌, ◌<◌, ◌*◌, length, slice_index}
use Rattle.grid_base.specs.Numbers.{layers}
use Rattle.grid_graph.specs.Flat.{tiles}
use Rattle.lower_bound.specs.TileCosts.{IsLeastOn}
use Rattle.lower_bound.proofs.tile_costs.write_costs.Given as goal

abbrev pub invariant-loop-e : goal.invariant-loop-e
invariant-loop-e g l = record {
  long : length l.costs ≡ 2 * tiles l.fn.size;
  each : (k : ℕ) → k < l.e → IsLeastOn l.fn.size (g.W.Weights.pieces l.weights) k (layers l.fn.size) (slice_index l.costs k);
}
