-- What one piece of a set brings to the text.
use Rattle.std.specs.Prelude.{ℕ, Bool, ◌&&◌, List, [], if◌then◌else◌}
use Rattle.grid_base.specs.declared.piece.Piece.{Piece}
use Rattle.grid_base.specs.Numbers.{start_of, end_of}
use Rattle.grid_graph.specs.declared.grid.Grid.{Grid}
use Rattle.grid_graph.specs.Grids.{size_of}
use Rattle.tree_set.specs.Runs.{begins_run, run_end, is_via}
use Rattle.route_text.specs.RouteText.{segment_text}

-- the run that begins with a piece, if it is one of these edges and begins one
abbrev pub run_text : Grid → List Piece → Bool → Piece → List ℕ
run_text g edges is_edge piece =
    if is_edge && begins_run (size_of g) edges (start_of piece)
    then segment_text g (start_of piece, run_end (size_of g) edges (start_of piece)) else []

-- the segment of a piece, if it is a via
abbrev pub via_text : Grid → Piece → List ℕ
via_text g piece = if is_via piece then segment_text g (start_of piece, end_of (size_of g) piece) else []
