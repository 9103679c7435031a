use Rattle.std.proofs.Common.{◌<◌, ◌≤◌, ℕ, slice_index}
use Rattle.label_search.proofs.sift.least_of.Given as goal

abbrev pub invariant-loop-j : goal.invariant-loop-j
invariant-loop-j l = record {
  start : l.first ≤ l.least;
  before : l.least < l.j;
  least : (k : ℕ) → l.first ≤ k → k < l.j → slice_index l.keys l.least ≤ slice_index l.keys k;
}
