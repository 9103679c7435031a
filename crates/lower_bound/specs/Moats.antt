-- Moats around terminals: no two of them overlap, so a set that joins the terminals crosses each of them (Jünger and
-- Pulleyblank, "Geometric duality and combinatorial optimization", 1993).
use Rattle.std.specs.Prelude.{ℕ, ◌≡◌, ◌≢◌, ◌+◌, ◌≤◌, List, length}
use Rattle.grid_base.specs.declared.piece.Piece.{Piece}
use Rattle.grid_base.specs.declared.size.Size.{Size}
use Rattle.grid_base.specs.declared.vertex.Vertex.{Vertex}
use Rattle.grid_base.specs.Lists.{At}
use Rattle.grid_base.specs.Walks.{WalkBetween}
use Rattle.grid_graph.specs.Weighed.{IsAllowed}
use Rattle.label_search.specs.Sets.{IsSetOf, weight}

-- a number is at most the distance of two vertices: no set of allowed pieces that joins them weighs less
abbrev pub IsWithinDistance : Size → List (Piece × ℕ) → ℕ → ℕ → ℕ → Type 0
IsWithinDistance s pieces a b n = (set : List (Piece × ℕ)) → IsSetOf pieces set → WalkBetween s (IsAllowed set) a b
    → n ≤ weight set

-- moats hold: there is one radius per terminal, and the radii of any two terminals add up to at most their distance
pub record AreMoats (s : Size) (pieces : List (Piece × ℕ)) (terminals : List Vertex) (radii : List ℕ) : Type 0 where
  pub each : length radii ≡ length terminals
  pub apart : (i j : ℕ) (a b : Vertex) (r q : ℕ) → i ≢ j → At terminals i a → At terminals j b → At radii i r → At radii j q
      → IsWithinDistance s pieces a.0 b.0 (r + q)
