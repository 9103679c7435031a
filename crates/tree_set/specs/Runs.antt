-- The runs of edges in a set of pieces, and its vias.
use Rattle.std.specs.Prelude.{ℕ, Bool, true, false, not, ◌+◌, ◌*◌, ◌<◌, ◌≡◌, ◌≢◌, ◌==◌, if◌then◌else◌, List, map, filter, fold, Contains, IsTrue}
use Rattle.std.specs.List.{list_any}
use Rattle.grid_base.specs.declared.axis.Axis.{Axis}
use Rattle.grid_base.specs.declared.piece.Piece.{Piece}
use Rattle.grid_base.specs.declared.piece.Piece.TheVariants.{Edge, Via}
use Rattle.grid_base.specs.declared.size.Size.{Size}
use Rattle.grid_base.specs.Lines.{is_along, edge_from, stride}
use Rattle.grid_base.specs.Numbers.{start_of, end_of}

-- the piece is a via
abbrev pub is_via : Piece → Bool
is_via (Edge e) = false
is_via (Via v) = true

-- a run begins at a vertex: no edge ends there
abbrev pub begins_run : Size → List Piece → ℕ → Bool
begins_run s edges start = not (list_any (λ edge. end_of s edge == start) edges)

-- where a run from a vertex ends: in rising order, each edge that begins where the run stands carries it on to its end
abbrev pub run_end : Size → List Piece → ℕ → ℕ
run_end s edges start = fold (λ at edge. if start_of edge == at then end_of s edge else at) start edges

-- the maximal runs of edges along one axis, in rising order of their first edge, each by its two ends
abbrev pub runs : Size → List Piece → List (ℕ × ℕ)
runs s edges = map (λ edge. (start_of edge, run_end s edges (start_of edge))) (filter (λ edge. begins_run s edges (start_of edge)) edges)

-- the vias of a set, in rising order, each by its two ends
abbrev pub vias : Size → List Piece → List (ℕ × ℕ)
vias s pieces = map (λ via. (start_of via, end_of s via)) (filter is_via pieces)

-- the set holds each edge along the axis from one vertex to the other, none that ends at the first, and not the one from the last
pub record IsLongestRun (s : Size) (axis : Axis) (tree : List Piece) (ends : ℕ × ℕ) : Type 0 where
  pub long : ℕ
  pub some : 0 < long
  pub end : ends.1 ≡ ends.0 + long * stride axis s
  pub held : (i : ℕ) → i < long → Contains tree (edge_from axis (ends.0 + i * stride axis s))
  pub first : (p : Piece) → Contains tree p → IsTrue (is_along axis p) → end_of s p ≢ ends.0
  pub last : ¬ Contains tree (edge_from axis ends.1)
