use Rattle.std.proofs.Common.{◌≡◌, ◌%◌, ◌<◌, ℕ}
use Rattle.overflow_bounds.proofs.layer_units.common_unit.Given as goal

-- what divides the two numbers that are left divides both that were there first
abbrev pub invariant-loop-rest : goal.invariant-loop-rest
invariant-loop-rest l = record {
  some : 0 < l.unit;
  divides : (d : ℕ) → l.unit % d ≡ 0 → l.rest % d ≡ 0 → (l.fn.one % d ≡ 0) × (l.fn.other % d ≡ 0);
}

abbrev pub decreases-loop-rest : goal.decreases-loop-rest
decreases-loop-rest l = l.rest
