use Rattle.std.proofs.Common.{◌≤◌, length}
use Rattle.hot_cuts.proofs.search.Search.try_fullest.Given as goal

-- no offer is taken away
abbrev pub invariant-loop-count : goal.invariant-loop-count
invariant-loop-count l = length l.initial.self.offers.items ≤ length l.self.offers.items
