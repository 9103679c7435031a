use Rattle.std.proofs.Common.{◌≡◌, ℕ}
use Rattle.label_search.specs.Runs.{IsSearch}
use Rattle.label_search.specs.Stamped.{far, max_key}
use Rattle.label_search.proofs.Relaxing.{OfferedBelow}
use Rattle.dijkstra_steiner.specs.Stacks.{rest_on}
use Rattle.dijkstra_steiner.specs.MaskSearches.{IsMaskSearch, Proceeds, mask_number}
use Rattle.dijkstra_steiner.proofs.relaxing.relax.Given as goal

abbrev pub invariant-loop-step : goal.invariant-loop-step
invariant-loop-step g l = record {
  search : IsSearch (rest_on l.rest.stack.size (g.F.Family.terminals l.rest.family.now) (g.F.Family.low l.rest.family.now)) max_key l.row;
  masks : (root : ℕ)
      → IsMaskSearch l.rest.stack.flat (g.W.Weights.pieces l.weights) (g.F.Family.terminals l.rest.family.now)
      (g.F.Family.low l.rest.family.now) l.last root l.initial.row
      → IsMaskSearch l.rest.stack.flat (g.W.Weights.pieces l.weights) (g.F.Family.terminals l.rest.family.now)
      (g.F.Family.low l.rest.family.now) l.last root l.row;
  proceeds : Proceeds l.initial.row l.row;
  from : mask_number l.rest.stack.flat l.row l.mask l.fn.at.vertex.0 ≡ l.number;
  offered : OfferedBelow l.rest.stack.flat (g.W.Weights.pieces l.weights) (λ _. 0) far (mask_number l.rest.stack.flat l.row l.mask)
      l.fn.at.vertex.0 l.number l.step-index;
}
