use Rattle.std.proofs.Common.{◌≡◌, ℕ, List, map, take}
use Rattle.grid_base.specs.declared.piece.Piece.{Piece}
use Rattle.label_search.specs.Sets.{IsSetOf, weight}
use Rattle.steiner_span.proofs.weighing.weight_of.Given as goal

abbrev pub invariant-loop-piece : goal.invariant-loop-piece
invariant-loop-piece g l = record {
  sum : (set : List (Piece × ℕ)) → map (λ x. x.0) set ≡ l.tree → IsSetOf (g.W.Weights.pieces l.weights) set → l.sum ≡ weight (take l.piece-index set);
}
