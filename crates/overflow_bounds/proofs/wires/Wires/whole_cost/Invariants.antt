use Rattle.std.proofs.Common.{◌≡◌, ◌*◌, ◌^◌, ◌≤◌, slice_index}
use Rattle.std.specs.List.{sum_by, range_with_len}
use Rattle.overflow_bounds.specs.Units.{unit_at}
use Rattle.dual_bound.specs.WholeWires.{whole_capacity}
use Rattle.overflow_bounds.proofs.wires.Wires.whole_cost.Given as goal

-- what the edges so far cost
abbrev pub invariant-loop-e : goal.invariant-loop-e
invariant-loop-e l = record {
  total : l.total ≡ sum_by (λ e. slice_index l.self.prices.now e * whole_capacity l.self.grid.now (unit_at l.self.grid.now l.self.prices.now l.self.units.now l.most) e) (range_with_len 0 l.e);
  small : l.total ≤ l.e * 2 ^ 48;
}
