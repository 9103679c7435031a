use Rattle.std.proofs.Common.{◌≡◌, ◌<◌, ℕ, length, slice_index}
use Rattle.overflow_bounds.proofs.Units.{IsUnitOf}
use Rattle.overflow_bounds.proofs.layer_units.layer_units.Given as goal

-- the units of the layers so far
abbrev pub invariant-loop-layer : goal.invariant-loop-layer
invariant-loop-layer l = record {
  long : length l.units.items ≡ l.layer;
  each : (layer : ℕ) → layer < l.layer → IsUnitOf l.design layer (slice_index l.units.items layer);
}
