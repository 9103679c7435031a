use Rattle.std.proofs.Common.{ℕ, ◌<◌, ◌≤◌, slice_index}
use Rattle.tile_graphs.proofs.regions.place_of_greatest.Given as goal

-- the place is one of those that there are, and the first of the greatest so far
abbrev pub invariant-loop-other : goal.invariant-loop-other
invariant-loop-other l = record {
  within : 0 < l.count → l.place < l.count;
  least : l.greatest ≤ slice_index l.numbers l.place;
  greatest : (k : ℕ) → k < l.other → slice_index l.numbers k ≤ l.greatest;
  first : (k : ℕ) → k < l.place → slice_index l.numbers k < l.greatest;
}
