-- The segments that are written for a set: inside the grid, straight, without walls.
use Rattle.std.proofs.Common.{◌≡◌, ℕ, List, ◌++◌, Contains, sym, ◌∙◌, ap, subst, ⊎_elim}
use Rattle.std.specs.Prelude.{filter, map}
use Rattle.std.proofs.lemmas.List.Elements.{All-contains, Contains-append_cases}
use Rattle.std.proofs.lemmas.Option.{same_Some}
use Rattle.grid_base.specs.declared.axis.Axis.{Axis}
use Rattle.grid_base.specs.declared.axis.Axis.TheVariants.{X, Y}
use Rattle.grid_base.specs.declared.piece.Piece.{Piece}
use Rattle.grid_base.specs.declared.piece.Piece.TheVariants.{Edge}
use Rattle.grid_base.specs.declared.size.Size.{Size}
use Rattle.grid_base.specs.Lines.{AreInLine, is_along}
use Rattle.grid_base.specs.Numbers.{IsPiece, start_of, end_of, place_at, to_next_layer}
use Rattle.grid_base.proofs.Chosen.{left_by_filter, made_by_map}
use Rattle.grid_base.proofs.Lines.{moved-in_line, above-in_line, via_place}
use Rattle.grid_graph.specs.declared.grid.Grid.{Grid}
use Rattle.grid_graph.specs.declared.ground.Ground.TheVariants.{WithChoked}
use Rattle.grid_graph.specs.declared.net_spec.NetSpec.{NetSpec}
use Rattle.grid_graph.specs.Grids.{Allows, size_of}
use Rattle.tree_set.specs.Order.{IsRising}
use Rattle.tree_set.specs.Routings.{ArePieces, KeepsTo}
use Rattle.tree_set.specs.Runs.{is_via, runs, vias}
use Rattle.tree_set.proofs.Runs.{AreEnds, run_ends, runs_are_longest, via_is}
use Rattle.route_text.specs.Segments.{segments}
use Rattle.route_text.specs.Written.{written_segment}
use Rattle.route_text.proofs.NamedPieces.{names_its_pieces}
use Rattle.route_text.proofs.Places.{point_place-written}
use Rattle.route_text.proofs.ReadBackPoints.{segments_have_ends}
use Rattle.route_text.specs.declared.segment.Segment.{Segment}
use Rattle.route_judge.specs.Objections.{IsOutside, IsSlanted, CrossesWall}

-- the two ends of a run are in line
run_in_line : (s : Size) (axis : Axis) (tree : List Piece) (ends : ℕ × ℕ) → IsRising tree → ArePieces s tree
    → Contains (runs s (filter (is_along axis) tree)) ends → AreInLine (place_at s ends.0) (place_at s ends.1)
run_in_line s axis tree ends rising pieces is_run =
    let run = runs_are_longest s axis tree ends rising pieces is_run in
    let at = run_ends s axis tree ends pieces run in
    subst (AreInLine (place_at s ends.0)) (sym at.place) (moved-in_line axis run.long (place_at s ends.0))

-- and so are those of a via
via_in_line : (s : Size) (tree : List Piece) (ends : ℕ × ℕ) → ArePieces s tree → Contains (vias s tree) ends
    → AreInLine (place_at s ends.0) (place_at s ends.1)
via_in_line s tree ends pieces is_via_of =
    let made = made_by_map (λ via. (start_of via, end_of s via)) (filter is_via tree) ends is_via_of in
    let via = made.0 in
    let kept = left_by_filter is_via tree via made.1 in
    let is : via ≡ to_next_layer (start_of via) = via_is via kept.1 in
    let piece : IsPiece s (to_next_layer (start_of via)) = subst (IsPiece s) is (All-contains (IsPiece s) tree via pieces kept.0) in
    let place = via_place s (start_of via) piece in
    let same : (start_of via, end_of s (to_next_layer (start_of via))) ≡ ends = sym (ap (λ q. (start_of via, end_of s q)) is) ∙ made.2 in
    subst (λ (e : ℕ × ℕ). AreInLine (place_at s e.0) (place_at s e.1)) same
    (subst (AreInLine (place_at s (start_of via))) (sym place) (above-in_line (place_at s (start_of via))))

-- the ends of each segment of a set are in line
segment_in_line : (s : Size) (tree : List Piece) (ends : ℕ × ℕ) → IsRising tree → ArePieces s tree → Contains (segments s tree) ends
    → AreInLine (place_at s ends.0) (place_at s ends.1)
segment_in_line s tree ends rising pieces is_segment =
    let xs = runs s (filter (is_along X) tree) in
    let ys = runs s (filter (is_along Y) tree) in
    ⊎_elim
    (λ is_run. ⊎_elim
    (λ across. run_in_line s X tree ends rising pieces across)
    (λ along. run_in_line s Y tree ends rising pieces along)
    (Contains-append_cases xs ys ends is_run))
    (λ is_via_of. via_in_line s tree ends pieces is_via_of)
    (Contains-append_cases (xs ++ ys) (vias s tree) ends is_segment)

-- nothing can be objected to a segment
pub record IsUnobjectionable (g : Grid) (segment : Segment) : Type 0 where
  pub inside : ¬ IsOutside g segment
  pub straight : ¬ IsSlanted g segment
  pub no_wall : ¬ CrossesWall g segment

written_inside : (g : Grid) (ends : ℕ × ℕ) → AreEnds (size_of g) ends → ¬ IsOutside g (written_segment g ends)
written_inside g ends vertices = λ outside. ⊎_elim
    (λ none. cc (none, point_place-written g ends.0 vertices.0))
    (λ none. cc (none, point_place-written g ends.1 vertices.1))
    outside

written_straight : (g : Grid) (ends : ℕ × ℕ) → AreEnds (size_of g) ends → AreInLine (place_at (size_of g) ends.0) (place_at (size_of g) ends.1)
    → ¬ IsSlanted g (written_segment g ends)
written_straight g ends vertices straight = λ slanted.
    let first : slanted.from ≡ place_at (size_of g) ends.0 = same_Some _ _ (sym slanted.starts ∙ point_place-written g ends.0 vertices.0) in
    let last : slanted.to ≡ place_at (size_of g) ends.1 = same_Some _ _ (sym slanted.ends ∙ point_place-written g ends.1 vertices.1) in
    slanted.slanted (subst (λ p. AreInLine p slanted.to) (sym first) (subst (AreInLine (place_at (size_of g) ends.0)) (sym last) straight))

-- a written segment of a set without walls
pub written_is_right : (g : Grid) (n : NetSpec) (tree : List Piece) (segment : Segment) → IsRising tree → ArePieces (size_of g) tree → KeepsTo g WithChoked tree
    → Contains (map (written_segment g) (segments (size_of g) tree)) segment → IsUnobjectionable g segment
written_is_right g n tree segment rising pieces no_wall held =
    let s = size_of g in
    let made = made_by_map (written_segment g) (segments s tree) segment held in
    let ends = made.0 in
    let vertices : AreEnds s ends = All-contains (AreEnds s) (segments s tree) ends (segments_have_ends s tree pieces) made.1 in
    record {
      inside = subst (λ x. ¬ IsOutside g x) made.2 (written_inside g ends vertices);
      straight = subst (λ x. ¬ IsSlanted g x) made.2 (written_straight g ends vertices (segment_in_line s tree ends rising pieces made.1));
      no_wall = λ crosses.
          let in_tree : Contains tree (Edge crosses.0) = (names_its_pieces g n tree rising pieces (Edge crosses.0)).0 (segment, held, crosses.1) in
          All-contains (Allows g WithChoked) tree (Edge crosses.0) no_wall in_tree crosses.2;
    }
