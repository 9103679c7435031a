use Rattle.std.proofs.Common.{◌≡◌}
use Rattle.hot_cuts.proofs.search.Search.found_from.Given as goal

-- what was found before stays
abbrev pub invariant-loop-part : goal.invariant-loop-part
invariant-loop-part l = record {
  bound : l.self.bound ≡ l.initial.self.bound;
  offers : l.self.offers ≡ l.initial.self.offers;
}
