use Rattle.std.proofs.Common.{◌≡◌, map}
use Rattle.std.specs.List.{sum_by}
use Rattle.tile_graphs.specs.Fullness.{in_word}
use Rattle.hot_cuts.specs.Searches.{excess_unless_settled}
use Rattle.hot_cuts.proofs.search.Search.open_excess.Given as goal

-- the sum so far
abbrev pub invariant-loop-total : goal.invariant-loop-total
invariant-loop-total l = l.all ≡ in_word (sum_by excess_unless_settled (map (λ (p : _). (p.0.now, p.1.now)) l.yielded))
