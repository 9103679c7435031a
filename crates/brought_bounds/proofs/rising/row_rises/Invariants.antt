use Rattle.std.proofs.Common.{◌≡◌, ◌<◌, ℕ}
use Rattle.grid_base.specs.Numbers.{start_of}
use Rattle.grid_base.specs.declared.piece.Piece.{Piece}
use Rattle.brought_bounds.specs.TableWords.{table_number, RisesAlong}
use Rattle.brought_bounds.proofs.rising.row_rises.Given as goal

abbrev pub invariant-loop-v : goal.invariant-loop-v
invariant-loop-v g l = (v : ℕ) → v < l.v → (p : Piece) → start_of p ≡ v
    → RisesAlong l.size (g.W.Weights.pieces l.weights) (table_number l.rows l.mask) p
