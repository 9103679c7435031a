use Rattle.std.proofs.Common.{◌≡◌, ◌+◌, ◌-◌, ◌^◌, ◌≤◌}
use Rattle.std.specs.Prelude.{map, max, min, sum}
use Rattle.std.specs.List.{range_with_len}
use Rattle.net_extents.specs.Spreads.{vias_above}
use Rattle.net_extents.proofs.spread.Spread.fewest_vias.Given as goal

-- the vias so far
abbrev pub invariant-loop-layer : goal.invariant-loop-layer
invariant-loop-layer l = record {
  within : l.layer ≤ max l.self.high l.layer-end;
  vias : l.vias ≡ min ((l.self.high - l.self.low) + sum (map (vias_above l.lowest l.self) (range_with_len l.self.high (l.layer - l.self.high)))) (2 ^ 64 - 1);
}
