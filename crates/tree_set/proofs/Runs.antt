-- The runs of a rising set are its longest ones, and each of its edges lies on one.
use Rattle.std.proofs.Common.{◌≡◌, ℕ, suc, ◌+◌, ◌*◌, ◌<◌, ◌≤◌, ◌==◌, Bool, true, false, List, [], ◌∷◌, get_or, Contains, All, refl, sym, ◌∙◌, ap, subst, ⊎_elim, arith, eq-eqb}
use Rattle.std.specs.Prelude.{filter}
use Rattle.std.specs.List.{list_any}
use Rattle.std.proofs.lemmas.Bool.{cases_Bool, cases_lt, not-true, both_ways}
use Rattle.std.proofs.lemmas.List.Elements.{All-contains, All-filter, All-map}
use Rattle.std.proofs.lemmas.List.Folds.{list_any_at}
use Rattle.grid_base.specs.declared.axis.Axis.{Axis}
use Rattle.grid_base.specs.declared.piece.Piece.{Piece}
use Rattle.grid_base.specs.declared.piece.Piece.TheVariants.{Edge, Via}
use Rattle.grid_base.specs.declared.size.Size.{Size}
use Rattle.grid_base.specs.Lines.{is_along, edge_from, stride}
use Rattle.grid_base.specs.Numbers.{IsPiece, IsVertex, place_at, start_of, end_of, to_next_layer}
use Rattle.grid_base.proofs.Chosen.{Contains-filter, left_by_filter, Contains-map, made_by_map}
use Rattle.grid_base.proofs.Lines.{IsLine, moved, no_steps, place_on_line, vertex_on_line, start_of-edge_from, is_along-edge_from, edge_from-start_of}
use Rattle.grid_base.proofs.Pieces.{end_of-vertex}
use Rattle.tree_set.specs.Order.{IsRising}
use Rattle.tree_set.specs.Routings.{ArePieces}
use Rattle.tree_set.specs.Runs.{IsLongestRun, begins_run, run_end, runs, is_via, vias}
use Rattle.tree_set.proofs.Ways.{held-vertex, way-behind, whole_way, way_to}

-- where a run begins, no edge along the axis ends
no_edge_before : (s : Size) (axis : Axis) (tree : List Piece) (v : ℕ) → begins_run s (filter (is_along axis) tree) v ≡ true → (p : Piece) → Contains tree p → is_along axis p ≡ true → end_of s p ≡ v → ⊥
no_edge_before s axis tree v begins p held along ends =
    let edges = filter (is_along axis) tree in
    let at = Contains-filter (is_along axis) tree p along held in
    let there : list_any (λ e. end_of s e == v) edges ≡ true = list_any_at (λ e. end_of s e == v) edges at.0 p at.1 (rw at.2 (eq-eqb _ _ ends)) in
    both_ways _ (not-true _ begins) there

longest_from : (s : Size) (axis : Axis) (tree : List Piece) (v : ℕ) → IsRising tree → ArePieces s tree → Contains tree (edge_from axis v) → begins_run s (filter (is_along axis) tree) v ≡ true → IsLongestRun s axis tree (v, run_end s (filter (is_along axis) tree) v)
longest_from s axis tree v up pieces held begins =
    let whole = whole_way s axis tree up pieces v in
    let some : 0 < whole.long =
    ⊎_elim
    (λ (more : 0 < whole.long). more)
    (λ (none : whole.long ≤ 0).
    let here : v + whole.long * stride axis s ≡ v = ap (λ n. v + n * stride axis s) (omega (arith, none)) ∙ no_steps v (stride axis s) in
    absurd (whole.done (subst (λ u. Contains tree (edge_from axis u)) (sym here) held)))
    (cases_lt 0 whole.long)
    in
    record {
      long = whole.long;
      some = some;
      end = whole.end;
      held = whole.way.held;
      first = no_edge_before s axis tree v begins;
      last = subst (λ u. Contains tree (edge_from axis u) → ⊥) (sym whole.end) whole.done;
    }

pub runs_are_longest : (s : Size) (axis : Axis) (tree : List Piece) (ends : ℕ × ℕ) → IsRising tree → ArePieces s tree → Contains (runs s (filter (is_along axis) tree)) ends → IsLongestRun s axis tree ends
runs_are_longest s axis tree ends up pieces held =
    let edges = filter (is_along axis) tree in
    let begins : Piece → Bool = λ e. begins_run s edges (start_of e) in
    let made = made_by_map (λ e. (start_of e, run_end s edges (start_of e))) (filter begins edges) ends held in
    let chosen = left_by_filter begins edges made.0 made.1 in
    let along = left_by_filter (is_along axis) tree made.0 chosen.0 in
    let edge : Contains tree (edge_from axis (start_of made.0)) = subst (Contains tree) (edge_from-start_of axis made.0 along.1) along.0 in
    subst (IsLongestRun s axis tree) made.2 (longest_from s axis tree (start_of made.0) up pieces edge chosen.1)

-- a run that an edge lies on, so many steps from where it begins
pub record LiesOnRun (s : Size) (axis : Axis) (tree : List Piece) (v : ℕ) : Type 0 where
  pub ends : ℕ × ℕ
  pub is_run : Contains (runs s (filter (is_along axis) tree)) ends
  pub longest : IsLongestRun s axis tree ends
  pub steps : ℕ
  pub below : steps < longest.long
  pub there : ends.0 + steps * stride axis s ≡ v

-- where a run begins with an edge of the set, it is one of the set's runs
is_run_from : (s : Size) (axis : Axis) (tree : List Piece) (v : ℕ) → Contains tree (edge_from axis v) → begins_run s (filter (is_along axis) tree) v ≡ true → Contains (runs s (filter (is_along axis) tree)) (v, run_end s (filter (is_along axis) tree) v)
is_run_from s axis tree v held begins =
    let edges = filter (is_along axis) tree in
    let edge = edge_from axis v in
    let test : Piece → Bool = λ e. begins_run s edges (start_of e) in
    let near : start_of edge ≡ v = start_of-edge_from axis v in
    let passes : test edge ≡ true = ap (begins_run s edges) near ∙ begins in
    let chosen : Contains (filter test edges) edge = Contains-filter test edges edge passes (Contains-filter (is_along axis) tree edge (is_along-edge_from axis v) held) in
    subst (λ u. Contains (runs s edges) (u, run_end s edges u)) near (Contains-map (λ e. (start_of e, run_end s edges (start_of e))) (filter test edges) edge chosen)

pub edge_lies_on_run : (s : Size) (axis : Axis) (tree : List Piece) (v : ℕ) → IsRising tree → ArePieces s tree → Contains tree (edge_from axis v) → LiesOnRun s axis tree v
edge_lies_on_run s axis tree v up pieces held =
    let to = way_to s axis tree v in
    let start = to.start in
    let way = way-behind s axis tree start to.long to.way (rw to.back held) in
    let first : Contains tree (edge_from axis start) = subst (λ u. Contains tree (edge_from axis u)) (no_steps start (stride axis s)) (way.held 0 (omega arith)) in
    let run = longest_from s axis tree start up pieces first to.begins in
    record {
      ends = (start, run_end s (filter (is_along axis) tree) start);
      is_run = is_run_from s axis tree start first to.begins;
      longest = run;
      steps = to.long;
      below = ⊎_elim
          (λ (more : to.long < run.long). more)
          (λ (over : run.long ≤ to.long). absurd (run.last (subst (λ u. Contains tree (edge_from axis u)) (sym run.end) (way.held run.long (omega (arith, over))))))
          (cases_lt to.long run.long);
      there = to.back;
    }

-- both ends are vertices
abbrev pub AreEnds : Size → ℕ × ℕ → Type 0
AreEnds s ends = IsVertex s ends.0 × IsVertex s ends.1

-- a run from a vertex ends at a vertex
run_end-vertex : (s : Size) (es : List Piece) (v : ℕ) → All (IsPiece s) es → IsVertex s v → IsVertex s (run_end s es v)
run_end-vertex s [] v pieces vertex = vertex
run_end-vertex s (e ∷ es) v pieces vertex =
    let others : All (IsPiece s) es = λ k d below. pieces (suc k) d (omega (arith, below)) in
    ⊎_elim
    (λ (on : (start_of e == v) ≡ true). rw on (run_end-vertex s es (end_of s e) others (end_of-vertex s e (pieces 0 e (omega arith)))))
    (λ (off : (start_of e == v) ≡ false). rw off (run_end-vertex s es v others vertex))
    (cases_Bool (start_of e == v))

pub runs_have_ends : (s : Size) (es : List Piece) → All (IsPiece s) es → All (AreEnds s) (runs s es)
runs_have_ends s es pieces =
    let firsts = filter (λ edge. begins_run s es (start_of edge)) es in
    All-map (AreEnds s) (λ edge. (start_of edge, run_end s es (start_of edge))) firsts
    (λ k d below.
    let piece = All-filter (λ edge. begins_run s es (start_of edge)) (IsPiece s) es pieces k d below in
    (piece.0, run_end-vertex s es (start_of (get_or firsts k d)) pieces piece.0))

pub vias_have_ends : (s : Size) (pieces : List Piece) → ArePieces s pieces → All (AreEnds s) (vias s pieces)
vias_have_ends s pieces are =
    All-map (AreEnds s) (λ via. (start_of via, end_of s via)) (filter is_via pieces)
    (λ k d below.
    let piece = All-filter is_via (IsPiece s) pieces are k d below in
    (piece.0, end_of-vertex s (get_or (filter is_via pieces) k d) piece))

-- the two ends of a run are vertices in line
pub record RunEnds (s : Size) (axis : Axis) (ends : ℕ × ℕ) (long : ℕ) : Type 0 where
  pub start : IsVertex s ends.0
  pub end : IsVertex s ends.1
  pub place : place_at s ends.1 ≡ moved axis long (place_at s ends.0)

pub run_line : {s : Size} {axis : Axis} {tree : List Piece} {ends : ℕ × ℕ} (pieces : ArePieces s tree) (run : IsLongestRun s axis tree ends) → IsLine s axis ends.0 run.long
run_line {s = s} {axis = axis} {tree = tree} {ends = ends} pieces run =
    record { each = λ i below. All-contains (IsPiece s) tree (edge_from axis (ends.0 + i * stride axis s)) pieces (run.held i below) }

pub run_ends : (s : Size) (axis : Axis) (tree : List Piece) (ends : ℕ × ℕ) (pieces : ArePieces s tree) (run : IsLongestRun s axis tree ends) → RunEnds s axis ends run.long
run_ends s axis tree ends pieces run =
    let line : IsLine s axis ends.0 run.long = run_line pieces run in
    let first : Contains tree (edge_from axis ends.0) = subst (λ u. Contains tree (edge_from axis u)) (no_steps ends.0 (stride axis s)) (run.held 0 run.some) in
    let start : IsVertex s ends.0 = held-vertex s axis tree ends.0 pieces first in
    record {
      start = start;
      end = subst (IsVertex s) (sym run.end) (vertex_on_line s axis ends.0 run.long start line);
      place = ap (place_at s) run.end ∙ place_on_line s axis ends.0 run.long line;
    }

-- a via goes up from its start
pub via_is : (p : Piece) → is_via p ≡ true → p ≡ to_next_layer (start_of p)
via_is (Edge e) is = cc
via_is (Via v) is = refl
