use Rattle.std.proofs.Common.{◌≤◌, length}
use Rattle.hot_cuts.proofs.search.Search.try_parts.Given as goal

-- no offer is taken away
abbrev pub invariant-loop-part : goal.invariant-loop-part
invariant-loop-part l = length l.initial.self.offers.items ≤ length l.self.offers.items
