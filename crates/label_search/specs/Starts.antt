-- What a search from several sources begins with.
use Rattle.std.specs.Prelude.{ℕ, ◌≡◌, ◌<◌, List}
use Rattle.grid_base.specs.declared.vertex.Vertex.{Vertex}
use Rattle.grid_base.specs.Walks.{InVertices}
use Rattle.label_search.specs.declared.row.Row.{Row}
use Rattle.label_search.specs.Rows.{number_in, Waits}
use Rattle.label_search.specs.Stamped.{far}

-- what has a number waits, and is a source, whose number is 0
pub record IsStarted (sources : List Vertex) (r : Row) : Type 0 where
  pub waits : (v : ℕ) → number_in r v < far → Waits r v
  pub members : (v : ℕ) → number_in r v < far → InVertices sources v
  pub zero : (v : ℕ) → number_in r v < far → number_in r v ≡ 0
