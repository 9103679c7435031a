-- The segments that are written for a set name its pieces and no others.
use Rattle.std.proofs.Common.{◌≡◌, ℕ, ◌+◌, ◌*◌, ◌<◌, List, ◌++◌, Contains, refl, sym, ◌∙◌, ap, subst, ⊎_elim}
use Rattle.std.specs.Prelude.{filter, ◌↔◌}
use Rattle.std.proofs.lemmas.List.Elements.{All-contains, Contains-append_left, Contains-append_right, Contains-append_cases}
use Rattle.grid_base.specs.declared.axis.Axis.{Axis}
use Rattle.grid_base.specs.declared.axis.Axis.TheVariants.{X, Y}
use Rattle.grid_base.specs.declared.piece.Piece.{Piece}
use Rattle.grid_base.specs.declared.size.Size.{Size}
use Rattle.grid_base.specs.Lines.{AreInLine, is_along, edge_from, stride}
use Rattle.grid_base.specs.Numbers.{IsPiece, start_of, end_of, place_at, to_next_layer}
use Rattle.grid_base.proofs.Chosen.{Contains-filter, left_by_filter, Contains-map, made_by_map}
use Rattle.grid_base.proofs.Lines.{GoesBetween, moved, moved-in_line, above-in_line, edge_on_line, only_on_line, only_via, via_between, via_place}
use Rattle.grid_base.proofs.Pieces.{one_from_start, end_of-vertex}
use Rattle.grid_graph.specs.declared.grid.Grid.{Grid}
use Rattle.grid_graph.specs.declared.net_spec.NetSpec.{NetSpec}
use Rattle.grid_graph.specs.Grids.{size_of}
use Rattle.tree_set.specs.Order.{IsRising}
use Rattle.tree_set.specs.Routings.{ArePieces}
use Rattle.tree_set.specs.Runs.{IsLongestRun, is_via, runs, vias}
use Rattle.tree_set.proofs.Runs.{run_line, run_ends, runs_are_longest, edge_lies_on_run, via_is}
use Rattle.route_text.specs.BlockPieces.{LiesOn, IsPieceOf}
use Rattle.route_text.specs.Segments.{segments}
use Rattle.route_text.specs.Written.{written_segment, written_block}
use Rattle.route_text.proofs.Places.{lies_between, lies_on}

-- a piece on the segment of a run is an edge of the set
held_by_run : (g : Grid) (axis : Axis) (tree : List Piece) (ends : ℕ × ℕ) (p : Piece) → ArePieces (size_of g) tree → IsLongestRun (size_of g) axis tree ends → LiesOn g (written_segment g ends) p → Contains tree p
held_by_run g axis tree ends p pieces run lies =
    let s = (size_of g) in
    let at = run_ends s axis tree ends pieces run in
    let between : GoesBetween s (place_at s ends.0) (moved axis run.long (place_at s ends.0)) p =
    subst (λ q. GoesBetween s (place_at s ends.0) q p) at.place (lies_between g ends.0 ends.1 p at.start at.end lies) in
    let on = only_on_line s axis ends.0 run.long p between in
    subst (Contains tree) (sym on.2) (run.held on.0 on.1)

-- and each edge of a run lies on its segment
lies_on_run : (g : Grid) (axis : Axis) (tree : List Piece) (ends : ℕ × ℕ) (pieces : ArePieces (size_of g) tree) (run : IsLongestRun (size_of g) axis tree ends) (i : ℕ) → i < run.long → LiesOn g (written_segment g ends) (edge_from axis (ends.0 + i * stride axis (size_of g)))
lies_on_run g axis tree ends pieces run i below =
    let s = (size_of g) in
    let at = run_ends s axis tree ends pieces run in
    let edge = edge_from axis (ends.0 + i * stride axis s) in
    lies_on g ends.0 ends.1 edge at.start at.end
    (subst (AreInLine (place_at s ends.0)) (sym at.place) (moved-in_line axis run.long (place_at s ends.0)))
    (subst (λ q. GoesBetween s (place_at s ends.0) q edge) (sym at.place) (edge_on_line s axis ends.0 run.long i (run_line pieces run) below))

-- a piece on the segment of a via is that via
only_via_on : (g : Grid) (v : ℕ) (p : Piece) → IsPiece (size_of g) (to_next_layer v) → LiesOn g (written_segment g (v, end_of (size_of g) (to_next_layer v))) p → p ≡ to_next_layer v
only_via_on g v p piece lies =
    let s = (size_of g) in
    only_via s v p (subst (λ q. GoesBetween s (place_at s v) q p) (via_place s v piece) (lies_between g v (end_of s (to_next_layer v)) p piece.0 (end_of-vertex s (to_next_layer v) piece) lies))

via_lies_on : (g : Grid) (v : ℕ) → IsPiece (size_of g) (to_next_layer v) → LiesOn g (written_segment g (v, end_of (size_of g) (to_next_layer v))) (to_next_layer v)
via_lies_on g v piece =
    let s = (size_of g) in
    let via = to_next_layer v in
    let place = sym (via_place s v piece) in
    lies_on g v (end_of s via) via piece.0 (end_of-vertex s via piece)
    (subst (AreInLine (place_at s v)) place (above-in_line (place_at s v)))
    (subst (λ q. GoesBetween s (place_at s v) q via) place (via_between s v piece))

held_by_via : (g : Grid) (tree : List Piece) (ends : ℕ × ℕ) (p : Piece) → ArePieces (size_of g) tree → Contains (vias (size_of g) tree) ends → LiesOn g (written_segment g ends) p → Contains tree p
held_by_via g tree ends p pieces is_via_of lies =
    let s = (size_of g) in
    let made = made_by_map (λ via. (start_of via, end_of s via)) (filter is_via tree) ends is_via_of in
    let via = made.0 in
    let kept = left_by_filter is_via tree via made.1 in
    let is : via ≡ to_next_layer (start_of via) = via_is via kept.1 in
    let piece : IsPiece s (to_next_layer (start_of via)) = subst (IsPiece s) is (All-contains (IsPiece s) tree via pieces kept.0) in
    let same : ends ≡ (start_of via, end_of s (to_next_layer (start_of via))) = sym made.2 ∙ ap (λ q. (start_of via, end_of s q)) is in
    let only : p ≡ to_next_layer (start_of via) = only_via_on g (start_of via) p piece (subst (λ e. LiesOn g (written_segment g e) p) same lies) in
    subst (Contains tree) (is ∙ sym only) kept.0

-- a piece on a segment of the set is in the set
held_by_segment : (g : Grid) (tree : List Piece) (ends : ℕ × ℕ) (p : Piece) → IsRising tree → ArePieces (size_of g) tree → Contains (segments (size_of g) tree) ends → LiesOn g (written_segment g ends) p → Contains tree p
held_by_segment g tree ends p up pieces is_segment lies =
    let s = (size_of g) in
    let xs = runs s (filter (is_along X) tree) in
    let ys = runs s (filter (is_along Y) tree) in
    ⊎_elim
    (λ is_run. ⊎_elim
    (λ across. held_by_run g X tree ends p pieces (runs_are_longest s X tree ends up pieces across) lies)
    (λ along. held_by_run g Y tree ends p pieces (runs_are_longest s Y tree ends up pieces along) lies)
    (Contains-append_cases xs ys ends is_run))
    (λ is_via_of. held_by_via g tree ends p pieces is_via_of lies)
    (Contains-append_cases (xs ++ ys) (vias s tree) ends is_segment)

-- a piece lies on the segment of these ends, one of the set's
abbrev IsNamed : Grid → List Piece → Piece → Type 0
IsNamed g tree p = (ends : ℕ × ℕ) × Contains (segments (size_of g) tree) ends × LiesOn g (written_segment g ends) p

edge_is_on_run : (g : Grid) (axis : Axis) (tree : List Piece) (v : ℕ) → IsRising tree → ArePieces (size_of g) tree → Contains tree (edge_from axis v) → (ends : ℕ × ℕ) × Contains (runs (size_of g) (filter (is_along axis) tree)) ends × LiesOn g (written_segment g ends) (edge_from axis v)
edge_is_on_run g axis tree v up pieces held =
    let on = edge_lies_on_run (size_of g) axis tree v up pieces held in (
      on.ends,
      on.is_run,
      subst (λ u. LiesOn g (written_segment g on.ends) (edge_from axis u)) on.there (lies_on_run g axis tree on.ends pieces on.longest on.steps on.below),
    )

-- a run is one of the segments
run_is_segment : (s : Size) (axis : Axis) (tree : List Piece) (ends : ℕ × ℕ) → Contains (runs s (filter (is_along axis) tree)) ends → Contains (segments s tree) ends
run_is_segment s axis tree ends run =
    let xs = runs s (filter (is_along X) tree) in
    let ys = runs s (filter (is_along Y) tree) in
    Contains-append_left (xs ++ ys) (vias s tree) ends (elim axis as (λ a. Contains (runs s (filter (is_along a) tree)) ends → Contains (xs ++ ys) ends) [ X ↦ Contains-append_left xs ys ends | Y ↦ Contains-append_right xs ys ends ] run)

edge_is_named : (g : Grid) (axis : Axis) (tree : List Piece) (v : ℕ) → IsRising tree → ArePieces (size_of g) tree → Contains tree (edge_from axis v) → IsNamed g tree (edge_from axis v)
edge_is_named g axis tree v up pieces held =
    let on = edge_is_on_run g axis tree v up pieces held in (on.0, run_is_segment (size_of g) axis tree on.0 on.1, on.2)

via_is_named : (g : Grid) (tree : List Piece) (v : ℕ) → ArePieces (size_of g) tree → Contains tree (to_next_layer v) → IsNamed g tree (to_next_layer v)
via_is_named g tree v pieces held =
    let s = (size_of g) in
    let via = to_next_layer v in
    let xs = runs s (filter (is_along X) tree) in
    let ys = runs s (filter (is_along Y) tree) in
    let ends : ℕ × ℕ = (v, end_of s via) in
    let is_one : Contains (vias s tree) ends = Contains-map (λ p. (start_of p, end_of s p)) (filter is_via tree) via (Contains-filter is_via tree via refl held) in
    (ends, Contains-append_right (xs ++ ys) (vias s tree) ends is_one, via_lies_on g v (All-contains (IsPiece s) tree via pieces held))

-- a piece of the set lies on one of its segments
is_named : (g : Grid) (tree : List Piece) (p : Piece) → IsRising tree → ArePieces (size_of g) tree → Contains tree p → IsNamed g tree p
is_named g tree p up pieces held =
    let by : (q : Piece) → p ≡ q → (Contains tree q → IsNamed g tree q) → IsNamed g tree p =
    λ q is named. subst (IsNamed g tree) (sym is) (named (subst (Contains tree) is held)) in
    let v = start_of p in
    ⊎_elim
    (λ edge. ⊎_elim
    (λ is. by (edge_from X v) is (edge_is_named g X tree v up pieces))
    (λ is. by (edge_from Y v) is (edge_is_named g Y tree v up pieces))
    edge)
    (λ is. by (to_next_layer v) is (via_is_named g tree v pieces))
    (one_from_start p)

-- the block that is written for a net with this set names the pieces of the set and no others
pub names_its_pieces : (g : Grid) (n : NetSpec) (tree : List Piece) → IsRising tree → ArePieces (size_of g) tree → (p : Piece) → IsPieceOf g (written_block g n tree) p ↔ Contains tree p
names_its_pieces g n tree up pieces p = (
  λ named.
      let made = made_by_map (written_segment g) (segments (size_of g) tree) named.0 named.1 in
      held_by_segment g tree made.0 p up pieces made.1 (subst (λ segment. LiesOn g segment p) (sym made.2) named.2),
  λ held.
      let named = is_named g tree p up pieces held in
      (written_segment g named.0, Contains-map (written_segment g) (segments (size_of g) tree) named.0 named.1, named.2),
)
