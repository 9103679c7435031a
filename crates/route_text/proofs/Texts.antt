-- The text of a list of segments, piece by piece of the set that it is made of.
use Rattle.std.proofs.Common.{◌≡◌, ℕ, Bool, List, ◌++◌, ◌∙◌, ap}
use Rattle.std.specs.Prelude.{◌&&◌, map, filter, flat_map}
use Rattle.std.proofs.lemmas.Grind.{flat_map-append}
use Rattle.grid_base.specs.declared.piece.Piece.{Piece}
use Rattle.grid_base.specs.Lines.{is_along}
use Rattle.grid_base.specs.Numbers.{start_of, end_of}
use Rattle.grid_base.proofs.Chosen.{flat_map-chosen, filter-filter}
use Rattle.grid_graph.specs.Grids.{size_of}
use Rattle.grid_graph.specs.declared.grid.Grid.{Grid}
use Rattle.grid_base.specs.declared.axis.Axis.{Axis}
use Rattle.grid_base.specs.declared.axis.Axis.TheVariants.{X, Y}
use Rattle.route_text.specs.Segments.{segments}
use Rattle.tree_set.specs.Runs.{is_via, begins_run, run_end, runs, vias}
use Rattle.route_text.specs.RouteText.{segment_text}
use Rattle.route_text.specs.Pieces.{run_text, via_text}
use Rattle.gr_desk.specs.Pens.{PenTold, Puts}
use Rattle.gr_desk.proofs.Pens.{puts-then}

pub runs-by_piece : (g : Grid) (axis : Axis) (ps : List Piece) →
    flat_map (segment_text g) (runs (size_of g) (filter (is_along axis) ps)) ≡ flat_map (λ p. run_text g (filter (is_along axis) ps) (is_along axis p) p) ps
runs-by_piece g axis ps =
    let edges = filter (is_along axis) ps in
    let begins : Piece → Bool = λ p. begins_run (size_of g) edges (start_of p) in
    let ends : Piece → ℕ × ℕ = λ p. (start_of p, run_end (size_of g) edges (start_of p)) in
    ap (λ chosen. flat_map (segment_text g) (map ends chosen)) (filter-filter (is_along axis) begins ps)
    ∙ flat_map-chosen (λ p. is_along axis p && begins p) ends (segment_text g) ps

pub vias-by_piece : (g : Grid) (ps : List Piece) → flat_map (segment_text g) (vias (size_of g) ps) ≡ flat_map (via_text g) ps
vias-by_piece g ps = flat_map-chosen is_via (λ p. (start_of p, end_of (size_of g) p)) (segment_text g) ps

-- the runs along x, the runs along y and the vias are put in turn
pub puts-segments : {a b c d : PenTold} (g : Grid) (ps : List Piece) →
    Puts a b (flat_map (segment_text g) (runs (size_of g) (filter (is_along X) ps))) → Puts b c (flat_map (segment_text g) (runs (size_of g) (filter (is_along Y) ps))) →
    Puts c d (flat_map (segment_text g) (vias (size_of g) ps)) → Puts a d (flat_map (segment_text g) (segments (size_of g) ps))
puts-segments g ps across along up =
    let xs = runs (size_of g) (filter (is_along X) ps) in
    let ys = runs (size_of g) (filter (is_along Y) ps) in
    rw (flat_map-append (segment_text g) (xs ++ ys) (vias (size_of g) ps), flat_map-append (segment_text g) xs ys) (puts-then (puts-then across along) up)
