use Rattle.std.proofs.Common.{ℕ, List}
use Rattle.grid_base.specs.declared.piece.Piece.{Piece}
use Rattle.label_search.specs.Runs.{IsSearch}
use Rattle.label_search.specs.Stamped.{max_key}
use Rattle.dijkstra_steiner.specs.Stacks.{rest_on}
use Rattle.dijkstra_steiner.specs.MaskSearches.{IsMaskSearch, Proceeds}
use Rattle.dijkstra_steiner.proofs.MaskOffers.{MergedBelow}
use Rattle.dijkstra_steiner.proofs.merging.merge.Given as goal

abbrev pub invariant-loop-both : goal.invariant-loop-both
invariant-loop-both g l = record {
  search : IsSearch (rest_on l.rest.stack.size (g.F.Family.terminals l.rest.family.now) (g.F.Family.low l.rest.family.now)) max_key l.row;
  masks : (pieces : List (Piece × ℕ)) (root : ℕ)
      → IsMaskSearch l.rest.stack.flat pieces (g.F.Family.terminals l.rest.family.now) (g.F.Family.low l.rest.family.now) l.last root
      l.initial.row
      → IsMaskSearch l.rest.stack.flat pieces (g.F.Family.terminals l.rest.family.now) (g.F.Family.low l.rest.family.now) l.last root
      l.row;
  proceeds : Proceeds l.initial.row l.row;
  merged : MergedBelow l.rest.stack.flat l.row l.number l.mask l.at.vertex.0 l.both;
}
