-- The blocks that are written for a design with borders in range can be judged: their numbers are in range, and they are not too many.
use Rattle.std.proofs.Common.{ℕ, ◌*◌, ◌<◌, ◌≤◌, List, ◌++◌, length, get_or, sym, subst, arith}
use Rattle.std.specs.Prelude.{filter}
use Rattle.std.proofs.lemmas.Int.{ints}
use Rattle.std.proofs.lemmas.List.{length-append, length-map}
use Rattle.std.proofs.lemmas.List.Elements.{All-map, All-weaker}
use Rattle.std.proofs.lemmas.List.Sums.{length-filter, count_by-le-length}
use Rattle.std.proofs.lemmas.Option.{slice_get-get_or}
use Rattle.grid_base.specs.declared.axis.Axis.TheVariants.{X, Y}
use Rattle.grid_base.specs.declared.piece.Piece.{Piece}
use Rattle.grid_base.specs.declared.size.Size.{Size}
use Rattle.grid_base.specs.Lines.{is_along}
use Rattle.grid_base.specs.Numbers.{IsVertex, start_of, end_of, vertices}
use Rattle.grid_base.proofs.Places.{place_at-inside}
use Rattle.grid_graph.specs.declared.design.Design.{Design}
use Rattle.grid_graph.specs.declared.grid.Grid.{Grid}
use Rattle.grid_graph.specs.Borders.{HasBordersInRange}
use Rattle.grid_graph.specs.Grids.{size_of}
use Rattle.grid_graph.proofs.Borders.{position_in_range}
use Rattle.tree_set.specs.Runs.{is_via, begins_run, run_end, runs, vias}
use Rattle.tree_set.proofs.Counting.{length-pieces}
use Rattle.tree_set.proofs.Runs.{AreEnds}
use Rattle.route_text.specs.declared.block.Block.{Block}
use Rattle.route_text.specs.ReadLimits.{IsPointInRange, IsSegmentInRange, IsBlockInRange}
use Rattle.route_text.specs.Segments.{segments}
use Rattle.route_text.specs.Written.{written_point, written_segment, written_block, written_blocks}
use Rattle.route_text.proofs.ReadBackPoints.{segments_have_ends}
use Rattle.route_judge.specs.Limits.{number_limit, AreBlocks}
use Rattle.judge_laws.proofs.WrittenBlocks.{AreRoutedSets, IsWritten, blocks_long, written_at}

fewer : {A : Type 0} (test : A → _) (xs : List A) → length (filter test xs) ≤ length xs
fewer test xs = omega (arith, length-filter test xs, count_by-le-length test xs)

few_runs : (s : Size) (edges : List Piece) → length (runs s edges) ≤ length edges
few_runs s edges =
    let begins : Piece → _ = λ e. begins_run s edges (start_of e) in
    let ends : Piece → ℕ × ℕ = λ e. (start_of e, run_end s edges (start_of e)) in
    omega (arith, length-map (filter begins edges) ends, fewer begins edges)

-- a set has no more segments than three times its pieces
few_segments : (s : Size) (tree : List Piece) → length (segments s tree) ≤ 3 * length tree
few_segments s tree =
    let xs = runs s (filter (is_along X) tree) in
    let ys = runs s (filter (is_along Y) tree) in
    let across : length xs ≤ length tree = omega (arith, few_runs s (filter (is_along X) tree), fewer (is_along X) tree) in
    let along : length ys ≤ length tree = omega (arith, few_runs s (filter (is_along Y) tree), fewer (is_along Y) tree) in
    let ends : Piece → ℕ × ℕ = λ via. (start_of via, end_of s via) in
    let up : length (vias s tree) ≤ length tree = omega (arith, length-map (filter is_via tree) ends, fewer is_via tree) in
    omega (arith, length-append (xs ++ ys) (vias s tree), length-append xs ys, across, along, up)

point_in_range : (g : Grid) (v : ℕ) → HasBordersInRange g → IsVertex (size_of g) v → IsPointInRange (written_point g v)
point_in_range g v borders vertex =
    let position = position_in_range g v borders vertex in
    let inside = place_at-inside (size_of g) v vertex in
    record {
      x = position.0;
      y = position.1;
      layer = record { low = omega (arith, ints); high = omega (arith, ints, inside.2, (size_of g).within.layer_limit) };
    }

segment_in_range : (g : Grid) → HasBordersInRange g → (ends : ℕ × ℕ) → AreEnds (size_of g) ends → IsSegmentInRange (written_segment g ends)
segment_in_range g borders ends vertices = record { from = point_in_range g ends.0 borders vertices.0; to = point_in_range g ends.1 borders vertices.1 }

pub record IsJudgeable (block : Block) : Type 0 where
  pub short : length block.segments < number_limit
  pub in_range : IsBlockInRange block

judgeable : (d : Design) (trees : List (List Piece)) (k : ℕ) (block : Block) → HasBordersInRange d.grid → IsWritten d trees k block → IsJudgeable block
judgeable d trees k block borders w =
    let g = d.grid in
    let s = size_of g in
    let long = length-map (segments s w.tree) (written_segment g) in
    let all : IsJudgeable (written_block g w.net w.tree) = record {
      short = omega (arith, long, few_segments s w.tree, length-pieces s w.tree w.rising w.pieces, s.within.vertex_limit);
      in_range = All-map IsSegmentInRange (written_segment g) (segments s w.tree) (All-weaker (AreEnds s) (λ ends. IsSegmentInRange (written_segment g ends)) (segment_in_range g borders) (segments s w.tree) (segments_have_ends s w.tree w.pieces));
    } in
    subst IsJudgeable (sym w.is) all

pub written_can_be_judged : (d : Design) (trees : List (List Piece)) → HasBordersInRange d.grid → AreRoutedSets d trees → AreBlocks (written_blocks d.grid d.nets trees)
written_can_be_judged d trees borders sets =
    let blocks = written_blocks d.grid d.nets trees in
    let each : (k : ℕ) (e : Block) → k < length blocks → IsJudgeable (get_or blocks k e) =
    λ k e below. judgeable d trees k (get_or blocks k e) borders (written_at d trees k (get_or blocks k e) sets (slice_get-get_or blocks k e below)) in
    record {
      few = omega (arith, blocks_long d trees sets, d.limits.count);
      short = λ k e below. (each k e below).short;
      in_range = λ k e below. (each k e below).in_range;
    }
