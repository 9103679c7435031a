-- What a net uses of the edges of disjoint runs.
use Rattle.std.proofs.Common.{◌≡◌, ◌≢◌, ℕ, suc, ◌+◌, ◌*◌, ◌<◌, ◌≤◌, ◌||◌, cond, Bool, true, false, Some, None, List, [], ◌∷◌, ◌++◌, Contains, length, get_or, take, drop, refl, sym, ◌∙◌, ap, subst, ⊎_elim, arith, ne_eqb}
use Rattle.std.proofs.Math.Seq.{drop-cons}
use Rattle.std.proofs.lemmas.Bool.{cases_Bool, cases_eq, false≢true}
use Rattle.std.proofs.lemmas.Grind.{flat_map-append}
use Rattle.std.proofs.lemmas.List.{take-append-drop, take_all, take_more}
use Rattle.std.proofs.lemmas.List.Elements.{Contains-append_right}
use Rattle.std.proofs.lemmas.List.Folds.{Any-from_list_any, list_any-append}
use Rattle.grid_base.specs.declared.axis.Axis.{Axis}
use Rattle.grid_base.specs.declared.axis.Axis.TheVariants.{X, Y}
use Rattle.grid_base.specs.declared.piece.Piece.{Piece}
use Rattle.grid_base.specs.declared.piece.Piece.TheVariants.{Edge, Via}
use Rattle.grid_base.specs.declared.place.Place.{Place}
use Rattle.grid_base.specs.declared.size.Size.{Size}
use Rattle.grid_base.specs.Lines.{stride}
use Rattle.grid_base.specs.Lists.{HasNoRepeats}
use Rattle.grid_base.specs.Numbers.{edge_along, edge_start, layer_of, place_at, IsPiece}
use Rattle.grid_base.proofs.Lines.{IsLine, moved, place_on_line}
use Rattle.grid_base.proofs.Lists.{head_or_rest}
use Rattle.grid_base.proofs.NoRepeats.{first_once, rest_once}
use Rattle.grid_base.proofs.Pieces.{start_of-to_next_col, start_of-to_next_row}
use Rattle.grid_graph.specs.declared.grid.Grid.{Grid}
use Rattle.grid_graph.specs.Capacities.{demand}
use Rattle.grid_graph.specs.Grids.{demand_on, size_of, width_of_layer, spacing_of_layer}
use Rattle.tree_set.specs.Loads.{holds, is_edge_of, net_load}
use Rattle.straight_runs.specs.declared.direction.Direction.{Direction}
use Rattle.straight_runs.specs.declared.direction.Direction.TheVariants.{East, North, Up}
use Rattle.straight_runs.specs.declared.run.Run.{Run}
use Rattle.straight_runs.specs.Differences.{AreDifferences}
use Rattle.straight_runs.specs.Lines.{axis_of, nth_piece, rise}
use Rattle.straight_runs.specs.LoadSums.{run_load}
use Rattle.straight_runs.specs.Runs.{IsStraightRun, pieces_of, run_pieces}
use Rattle.straight_runs.proofs.Added.{finds_run, no_edge_held, same_differences}
use Rattle.straight_runs.proofs.Merges.{in_some_run, of_run, pieces_of-push}

layer_moved : (axis : Axis) (i : ℕ) (p : Place) → (moved axis i p).layer ≡ p.layer
layer_moved X i p = refl
layer_moved Y i p = refl

-- the layer stays along a line
same_layer : (s : Size) (a : Axis) (v n i : ℕ) → IsLine s a v n → i < n → layer_of s (v + i * stride a s) ≡ layer_of s v
same_layer s a v n i line below =
    let moved_layer : (axis : Axis) → (moved axis i (place_at s v)).layer ≡ layer_of s v = λ axis. layer_moved axis i (place_at s v) in
    ap (λ (p : Place). p.layer) (place_on_line s a v i (record { each = λ j early. line.each j (omega (arith, early, below)) })) ∙ moved_layer a

line_of : (s : Size) (d : Direction) (a : Axis) (v n : ℕ) → axis_of d ≡ Some a → ((i : ℕ) → i < n → IsPiece s (nth_piece s d v i)) → IsLine s a v n
line_of s East X v n is each = record { each = each }
line_of s East Y v n is each = absurd (cc)
line_of s North X v n is each = absurd (cc)
line_of s North Y v n is each = record { each = each }
line_of s Up a v n is each = absurd (cc)

start_along : (a : Axis) (v : ℕ) → edge_start (edge_along a v).0 ≡ v
start_along X v = start_of-to_next_col v
start_along Y v = start_of-to_next_row v

number_on : (s : Size) (d : Direction) (a : Axis) (v i : ℕ) → axis_of d ≡ Some a → (edge_along a v).0 + i * (2 * rise d s) ≡ (edge_along a (v + i * stride a s)).0
number_on s East X v i is = omega arith
number_on s East Y v i is = absurd (cc)
number_on s North X v i is = absurd (cc)
number_on s North Y v i is = omega arith
number_on s Up a v i is = absurd (cc)

abbrev on_layer : Grid → ℕ → ℕ → ℕ
on_layer g width layer = demand width (width_of_layer g layer) (spacing_of_layer g layer)

-- what a net uses of the edges of a run is the same for each
demand_along : (g : Grid) (width : ℕ) (run : Run) (a : Axis) (i : ℕ) → axis_of run.direction ≡ Some a → IsStraightRun (size_of g) run → i < run.count → demand_on g width ((edge_along a run.first.0).0 + i * (2 * rise run.direction (size_of g))) ≡ demand_on g width (edge_along a run.first.0).0
demand_along g width run a i is is_run below =
    let s = size_of g in
    let v = run.first.0 in
    let line = line_of s run.direction a v run.count is is_run.each in
    let number = number_on s run.direction a v i is in
    let near : layer_of s (edge_start (edge_along a v).0) ≡ layer_of s v = ap (layer_of s) (start_along a v) in
    let far : layer_of s (edge_start (edge_along a (v + i * stride a s)).0) ≡ layer_of s (v + i * stride a s) = ap (layer_of s) (start_along a (v + i * stride a s)) in
    ap (demand_on g width) number ∙ ap (on_layer g width) (far ∙ same_layer s a v run.count i line below ∙ sym near)

-- so that a run with this demand adds what a net uses of it
net_run : (g : Grid) (width : ℕ) (run : Run) (a : Axis) (e : ℕ) → axis_of run.direction ≡ Some a → IsStraightRun (size_of g) run → run_load (size_of g) run (demand_on g width (edge_along a run.first.0).0) e ≡ net_load g width (run_pieces (size_of g) run) e
net_run g width run a e is is_run = ⊎_elim
    (λ (held : holds (run_pieces (size_of g) run) e ≡ true).
    let at = (finds_run (size_of g) run a is).found e held in
    rw held (sym (ap (demand_on g width) at.2 ∙ demand_along g width run a at.0 is is_run at.1)))
    (λ (none : holds (run_pieces (size_of g) run) e ≡ false). rw none refl)
    (cases_Bool (holds (run_pieces (size_of g) run) e))

net_vias : (g : Grid) (width : ℕ) (run : Run) (e : ℕ) → axis_of run.direction ≡ None → net_load g width (run_pieces (size_of g) run) e ≡ 0
net_vias g width run e is = rw (no_edge_held (size_of g) run e is) refl

-- an edge that is held is a piece
edge_is : (e : ℕ) (p : Piece) → is_edge_of e p ≡ true → p ≡ Edge (record { 0 = e })
edge_is e (Edge y) passes = ⊎_elim
    (λ (same : y.0 ≡ e). ap (λ n. Edge (record { 0 = n })) same)
    (λ (other : y.0 ≢ e). absurd (false≢true (sym (ne_eqb y.0 e other) ∙ passes)))
    (cases_eq y.0 e)
edge_is e (Via v) passes = absurd (false≢true passes)

held_piece : (pieces : List Piece) (e : ℕ) → holds pieces e ≡ true → Contains pieces (Edge (record { 0 = e }))
held_piece pieces e held =
    let some = Any-from_list_any (is_edge_of e) pieces held in
    subst (λ p. Contains pieces p) (edge_is e some.1 some.4) (some.0, some.2, some.3)

both : (a b : Bool) (n : ℕ) → (a ≡ true → b ≡ true → ⊥) → cond (a || b) n 0 ≡ cond a n 0 + cond b n 0
both true true n apart = absurd (apart refl refl)
both true false n apart = omega arith
both false b n apart = omega arith

net_append : (g : Grid) (width : ℕ) (xs ys : List Piece) (e : ℕ) → ((p : Piece) → Contains xs p → Contains ys p → ⊥) → net_load g width (xs ++ ys) e ≡ net_load g width xs e + net_load g width ys e
net_append g width xs ys e apart =
    ap (λ b. cond b (demand_on g width e) 0) (list_any-append (is_edge_of e) xs ys)
    ∙ both (holds xs e) (holds ys e) (demand_on g width e) (λ left right. apart (Edge (record { 0 = e })) (held_piece xs e left) (held_piece ys e right))

-- what stands in the front of a list without repeats doesn't stand behind
front_apart : {X : Type 0} (xs ys : List X) → HasNoRepeats (xs ++ ys) → (x : X) → Contains xs x → Contains ys x → ⊥
front_apart [] ys once x left right = omega (arith, left.1)
front_apart (z ∷ xs) ys once x left right = ⊎_elim
    (λ same. first_once z (xs ++ ys) once (Contains-append_right xs ys z (subst (λ y. Contains ys y) same right)))
    (λ later. front_apart xs ys (rest_once z (xs ++ ys) once) x later right)
    (head_or_rest z xs x left)

-- one run more of a list of disjoint runs
pub net_more : (g : Grid) (width : ℕ) (runs : List Run) (i e : ℕ) (run : Run) → HasNoRepeats (pieces_of (size_of g) runs) → i < length runs → run ≡ get_or runs i run → net_load g width (pieces_of (size_of g) (take (i + 1) runs)) e ≡ net_load g width (pieces_of (size_of g) (take i runs)) e + net_load g width (run_pieces (size_of g) run) e
net_more g width runs i e run once within is =
    let s = size_of g in
    let front = pieces_of s (take i runs) in
    let back = pieces_of s (drop i runs) in
    let whole : pieces_of s runs ≡ front ++ back = ap (pieces_of s) (sym (take-append-drop i runs)) ∙ flat_map-append (run_pieces s) (take i runs) (drop i runs) in
    let here : drop i runs ≡ run ∷ drop (suc i) runs = drop-cons runs i run within ∙ ap (λ r. r ∷ drop (suc i) runs) (sym is) in
    let in_back : Contains (drop i runs) run = subst (λ rs. Contains rs run) (sym here) (0, omega arith, refl) in
    ap (λ rs. net_load g width (pieces_of s rs) e) (take_more runs i run within ∙ ap (λ r. take i runs ++ r ∷ []) (sym is))
    ∙ ap (λ ps. net_load g width ps e) (pieces_of-push s (take i runs) run)
    ∙ net_append g width front (run_pieces s run) e
    (λ p left right. front_apart front back (subst (λ ps. HasNoRepeats ps) whole once) p left (in_some_run s (drop i runs) p run in_back (of_run s run p right)))

-- the loads with the net's use of the runs so far
abbrev pub so_far : Grid → ℕ → List Run → ℕ → (ℕ → ℕ) → ℕ → ℕ
so_far g width runs i load e = load e + net_load g width (pieces_of (size_of g) (take i runs)) e

pub more_edges : (g : Grid) (width : ℕ) (runs : List Run) (i : ℕ) (run : Run) (a : Axis) (used : ℕ) (load : ℕ → ℕ) (table : List ℕ) → HasNoRepeats (pieces_of (size_of g) runs) → i < length runs → run ≡ get_or runs i run → IsStraightRun (size_of g) run → axis_of run.direction ≡ Some a → used ≡ demand_on g width (edge_along a run.first.0).0 → AreDifferences (size_of g) (λ e. so_far g width runs i load e + run_load (size_of g) run used e) table → AreDifferences (size_of g) (so_far g width runs (i + 1) load) table
more_edges g width runs i run a used load table once within at is_run is uses are =
    same_differences (size_of g) (λ e. so_far g width runs i load e + run_load (size_of g) run used e) (so_far g width runs (i + 1) load) table
    (λ e. omega (arith, net_more g width runs i e run once within at, ap (λ n. run_load (size_of g) run n e) uses, net_run g width run a e is is_run)) are

pub more_vias : (g : Grid) (width : ℕ) (runs : List Run) (i : ℕ) (run : Run) (load : ℕ → ℕ) (table : List ℕ) → HasNoRepeats (pieces_of (size_of g) runs) → i < length runs → run ≡ get_or runs i run → axis_of run.direction ≡ None → AreDifferences (size_of g) (so_far g width runs i load) table → AreDifferences (size_of g) (so_far g width runs (i + 1) load) table
more_vias g width runs i run load table once within at is are =
    same_differences (size_of g) (so_far g width runs i load) (so_far g width runs (i + 1) load) table
    (λ e. omega (arith, net_more g width runs i e run once within at, net_vias g width run e is)) are

-- the same, where the grid's size goes by other names
pub sized_edges : (s t : Size) (g : Grid) (width : ℕ) (runs : List Run) (i : ℕ) (run : Run) (a : Axis) (used : ℕ) (load : ℕ → ℕ) (table : List ℕ) → s ≡ size_of g → t ≡ size_of g → HasNoRepeats (pieces_of (size_of g) runs) → i < length runs → run ≡ get_or runs i run → IsStraightRun (size_of g) run → axis_of run.direction ≡ Some a → used ≡ demand_on g width (edge_along a run.first.0).0 → AreDifferences t (λ e. so_far g width runs i load e + run_load s run used e) table → AreDifferences t (so_far g width runs (i + 1) load) table
sized_edges s t g width runs i run a used load table of_run of_sums once within at is_run is uses are =
    subst (λ z. AreDifferences z (so_far g width runs (i + 1) load) table) (sym of_sums)
    (more_edges g width runs i run a used load table once within at is_run is uses
    (subst (λ z. AreDifferences z (λ e. so_far g width runs i load e + run_load (size_of g) run used e) table) of_sums
    (subst (λ z. AreDifferences t (λ e. so_far g width runs i load e + run_load z run used e) table) of_run are)))

pub sized_vias : (t : Size) (g : Grid) (width : ℕ) (runs : List Run) (i : ℕ) (run : Run) (load : ℕ → ℕ) (table : List ℕ) → t ≡ size_of g → HasNoRepeats (pieces_of (size_of g) runs) → i < length runs → run ≡ get_or runs i run → axis_of run.direction ≡ None → AreDifferences t (so_far g width runs i load) table → AreDifferences t (so_far g width runs (i + 1) load) table
sized_vias t g width runs i run load table of_sums once within at is are =
    subst (λ z. AreDifferences z (so_far g width runs (i + 1) load) table) (sym of_sums)
    (more_vias g width runs i run load table once within at is
    (subst (λ z. AreDifferences z (so_far g width runs i load) table) of_sums are))

-- all runs are added
pub all_added : (s : Size) (g : Grid) (width : ℕ) (runs : List Run) (i : ℕ) (load : ℕ → ℕ) (table : List ℕ) → length runs ≤ i → AreDifferences s (so_far g width runs i load) table → AreDifferences s (λ e. load e + net_load g width (pieces_of (size_of g) runs) e) table
all_added s g width runs i load table all are =
    same_differences s (so_far g width runs i load) (λ e. load e + net_load g width (pieces_of (size_of g) runs) e) table
    (λ e. ap (λ rs. load e + net_load g width (pieces_of (size_of g) rs) e) (take_all i runs all)) are

-- and none of them
pub none_added : (s : Size) (g : Grid) (width : ℕ) (runs : List Run) (load : ℕ → ℕ) (table : List ℕ) → AreDifferences s load table → AreDifferences s (so_far g width runs 0 load) table
none_added s g width runs load table are = same_differences s load (so_far g width runs 0 load) table (λ e. omega arith) are
