use Rattle.std.proofs.Common.{◌≤◌, length}
use Rattle.hot_cuts.proofs.search.Search.try_all.Given as goal

-- no offer is taken away
abbrev pub invariant-loop-percent : goal.invariant-loop-percent
invariant-loop-percent l = length l.initial.self.offers.items ≤ length l.self.offers.items
