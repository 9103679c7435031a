use Rattle.std.proofs.Common.{◌≡◌, ℕ, List, [], length}
use Rattle.grid_base.specs.declared.piece.Piece.{Piece}
use Rattle.grid_base.specs.Lists.{At}
use Rattle.route_judge.proofs.net_sets.empty_sets.Given as goal

-- so many empty sets
abbrev pub invariant-loop-place : goal.invariant-loop-place
invariant-loop-place l = record {
  long : length l.trees.items ≡ l._place;
  empty : (i : ℕ) (tree : List Piece) → At l.trees.items i tree → tree ≡ [];
}
