-- Searches from several sources at once.
use Rattle.std.specs.Prelude.{ℕ, ◌≤◌, List}
use Rattle.grid_base.specs.declared.piece.Piece.{Piece}
use Rattle.grid_base.specs.declared.size.Size.{Size}
use Rattle.grid_base.specs.declared.vertex.Vertex.{Vertex}
use Rattle.grid_base.specs.Walks.{InVertices}
use Rattle.label_search.specs.Paths.{IsPath}

-- a path of at most this weight leads to v from one of the sources
pub record IsFromAny (s : Size) (pieces : List (Piece × ℕ)) (sources : List Vertex) (v number : ℕ) : Type 0 where
  pub source : ℕ
  pub is_source : InVertices sources source
  pub path : List Piece
  pub length : ℕ
  pub is_path : IsPath s pieces source v length path
  pub light : length ≤ number
