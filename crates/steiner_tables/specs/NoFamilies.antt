-- The family that knows nothing.
use Rattle.std.specs.Prelude.{ℕ, List, refl}
use Rattle.std.proofs.Common.{arith}
use Rattle.grid_base.specs.declared.piece.Piece.{Piece}
use Rattle.grid_base.specs.declared.size.Size.{Size}
use Rattle.grid_base.specs.declared.vertex.Vertex.{Vertex}
use Rattle.steiner_tables.specs.Tables.{IsFamily}

-- 0 is a lower bound of everything
pub nothing_holds : (s : Size) (pieces : List (Piece × ℕ)) (terminals : List Vertex) → IsFamily s pieces terminals (λ _ _. 0)
nothing_holds s pieces terminals = record {
  own = λ place v at low. refl;
  steps = λ mask some low p k a b weighs connects. omega arith;
  splits = λ one other mask v parts low vertex. omega arith;
}
