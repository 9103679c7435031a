-- Searches from several sources at once.
use Rattle.std.proofs.Common.{ℕ, ◌<◌, List, arith}
use Rattle.grid_base.specs.declared.piece.Piece.{Piece}
use Rattle.grid_base.specs.declared.size.Size.{Size}
use Rattle.grid_base.specs.declared.vertex.Vertex.{Vertex}
use Rattle.label_search.specs.declared.row.Row.{Row}
use Rattle.label_search.specs.Rows.{number_in}
use Rattle.label_search.specs.Runs.{FallsFrom}
use Rattle.label_search.specs.Starts.{IsStarted}
use Rattle.label_search.specs.Stamped.{far}
use Rattle.shortest_paths.specs.Sources.{IsFromAny}

-- what fell along paths is a path's weight from a source, or more
pub fallen_from_any : (s : Size) (pieces : List (Piece × ℕ)) (sources : List Vertex) (old new : Row) (v : ℕ)
    → IsStarted sources old → FallsFrom s pieces old new → number_in new v < far
    → IsFromAny s pieces sources v (number_in new v)
fallen_from_any s pieces sources old new v started fell low =
    let from = fell.from v low in
    record {
      source = from.before;
      is_source = started.members from.before from.numbered;
      path = from.path;
      length = from.length;
      is_path = from.is_path;
      light = omega (arith, from.light);
    }
