use Rattle.std.proofs.Common.{◌≡◌, ◌^◌, ◌*◌, ◌≤◌, take}
use Rattle.std.specs.List.{sum}
use Rattle.dual_bound.proofs.net_bounds.total_of.Given as goal

-- the sum so far, of numbers that fit 64 bits
abbrev pub invariant-loop-number : goal.invariant-loop-number
invariant-loop-number l = record {
  total : l.total ≡ sum (take l.number-index l.numbers);
  small : l.total ≤ l.number-index * 2 ^ 64;
}
