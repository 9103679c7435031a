-- Tiles that stand for those that they are joined with at no cost.
use Rattle.std.specs.Prelude.{ℕ, ◌≡◌, List, length, map, slice_index}
use Rattle.grid_base.specs.declared.piece.Piece.{Piece}
use Rattle.grid_base.specs.declared.size.Size.{Size}
use Rattle.grid_base.specs.declared.vertex.Vertex.{Vertex}
use Rattle.grid_base.specs.Numbers.{vertices, IsVertex}
use Rattle.grid_base.specs.Walks.{WalkBetween}
use Rattle.grid_graph.specs.Weighed.{Weighs}

-- the piece is in the list and weighs nothing
abbrev pub IsFree : List (Piece × ℕ) → Piece → Type 0
IsFree pieces p = Weighs pieces p 0

-- a walk of pieces that weigh nothing leads from each vertex to the one that stands for it
pub record AreRepresentatives (s : Size) (pieces : List (Piece × ℕ)) (representatives : List ℕ) : Type 0 where
  pub long : length representatives ≡ vertices s
  pub leads : (v : ℕ) → IsVertex s v → WalkBetween s (IsFree pieces) v (slice_index representatives v)

-- those that stand for these vertices
abbrev pub represented : List ℕ → List Vertex → List Vertex
represented representatives vertices = map (λ v. record { 0 = slice_index representatives v.0 }) vertices

-- walks of pieces that weigh nothing lead from each vertex of T to one of U, and the other way round
pub record AreJoinedFreely (s : Size) (pieces : List (Piece × ℕ)) (T U : ℕ → Type 0) : Type 0 where
  pub there : (v : ℕ) → T v → (u : ℕ) × U u × WalkBetween s (IsFree pieces) v u
  pub back : (u : ℕ) → U u → (v : ℕ) × T v × WalkBetween s (IsFree pieces) v u
