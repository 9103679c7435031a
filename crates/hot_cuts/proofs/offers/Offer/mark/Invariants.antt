use Rattle.std.proofs.Common.{◌≡◌, drop, fold, length}
use Rattle.hot_cuts.specs.Offers.{with_mark_of}
use Rattle.hot_cuts.proofs.offers.Offer.mark.Given as goal

-- no mark is added, and the tile edges left are still to be marked
abbrev pub invariant-loop-priced : goal.invariant-loop-priced
invariant-loop-priced l = record {
  long : length l.marks.items ≡ length l.initial.marks.items;
  marked : fold with_mark_of l.marks.items (drop l.priced-index l.self.prices.items) ≡ fold with_mark_of l.initial.marks.items l.self.prices.items;
}
