-- Counts of edges along lines, and how many a run has by them.
use Rattle.std.proofs.Common.{◌≡◌, ◌≢◌, ℕ, zero, suc, ◌+◌, ◌*◌, ◌<◌, ◌≤◌, cond, Bool, true, false, List, length, map, slice_index, slice_set, refl, sym, ◌∙◌, ap, subst, ⊎_elim, arith}
use Rattle.std.specs.List.{range_with_len}
use Rattle.std.proofs.lemmas.Bool.{cases_eq}
use Rattle.std.proofs.lemmas.List.{get_or-set_same, get_or-set_other, length-set}
use Rattle.std.proofs.lemmas.List.FromFn.{sum_by-map-range_with_len_more}
use Rattle.std.proofs.lemmas.Nat.{mul-le}
use Rattle.grid_base.specs.declared.piece.Piece.{Piece}
use Rattle.grid_base.specs.declared.size.Size.{Size}
use Rattle.grid_base.specs.Numbers.{vertices}
use Rattle.grid_graph.specs.declared.grid.Grid.{Grid}
use Rattle.grid_graph.specs.declared.kind.Kind.{Kind}
use Rattle.grid_graph.specs.Grids.{size_of}
use Rattle.straight_runs.specs.declared.direction.Direction.{Direction}
use Rattle.straight_runs.specs.declared.direction.Direction.TheVariants.{Up}
use Rattle.straight_runs.specs.declared.run.Run.{Run}
use Rattle.straight_runs.specs.LineCounts.{AreCounts, is_of_kind, kind_count}
use Rattle.straight_runs.specs.Lines.{rise, piece_towards, nth_piece}
use Rattle.straight_runs.specs.Runs.{IsStraightRun, run_piece, run_pieces, run_end}
use Rattle.straight_runs.proofs.Lines.{rise-positive, run_ends}

-- one where the edge from a vertex in a direction is of the kind
abbrev pub one_more : Grid → Kind → Direction → ℕ → ℕ
one_more g k d v = cond (is_of_kind g k (piece_towards d v)) 1 0

at_most_one : (b : Bool) → cond b 1 0 ≤ 1
at_most_one true = omega arith
at_most_one false = omega arith

-- the counts up to a vertex are made
pub record IsCounting (g : Grid) (k : Kind) (direction : Direction) (upto : ℕ) (counts : List ℕ) : Type 0 where
  pub long : length counts ≡ vertices (size_of g)
  pub small : (v : ℕ) → slice_index counts v ≤ v
  pub next : (v : ℕ) → v + rise direction (size_of g) < upto → slice_index counts (v + rise direction (size_of g)) ≡ slice_index counts v + one_more g k direction v

-- one vertex more
pub counted : (g : Grid) (k : Kind) (d : Direction) (before at : ℕ) (counts : List ℕ) → at ≡ before + rise d (size_of g) → at < vertices (size_of g) → IsCounting g k d at counts → IsCounting g k d (at + 1) (slice_set counts at (slice_index counts before + one_more g k d before))
counted g k d before at counts is within so_far =
    let step = rise d (size_of g) in
    let some = rise-positive d (size_of g) in
    let more = slice_index counts before + one_more g k d before in
    let same : slice_index (slice_set counts at more) at ≡ more = get_or-set_same counts at more 0 (omega (arith, within, so_far.long)) in
    let other : (v : ℕ) → v ≢ at → slice_index (slice_set counts at more) v ≡ slice_index counts v = λ v apart. get_or-set_other counts at v more 0 apart in
    record {
      long = length-set counts at more ∙ so_far.long;
      small = λ v. ⊎_elim
          (λ (here : v ≡ at). rw (here, same) (omega (arith, so_far.small before, at_most_one (is_of_kind g k (piece_towards d before)), is, some)))
          (λ (apart : v ≢ at). rw (other v apart) (so_far.small v))
          (cases_eq v at);
      next = λ v below. ⊎_elim
          (λ (here : v ≡ before).
          rw (here, sym is, same, other before (omega (arith, is, some))) refl)
          (λ (apart : v ≢ before).
          let off : v + step ≢ at = omega (arith, is, apart) in
          let off_too : v ≢ at = omega (arith, below, some) in
          rw (other (v + step) off, other v off_too) (so_far.next v (omega (arith, below, is, apart))))
          (cases_eq v before);
    }

-- the count of pieces in a direction grows by one piece
grown : (g : Grid) (k : Kind) (f : ℕ → Piece) (i : ℕ) → kind_count g k (map f (range_with_len 0 (suc i))) ≡ kind_count g k (map f (range_with_len 0 i)) + cond (is_of_kind g k (f i)) 1 0
grown g k f i =
    let same : i + 1 ≡ suc i = omega arith in
    subst (λ n. kind_count g k (map f (range_with_len 0 n)) ≡ kind_count g k (map f (range_with_len 0 i)) + cond (is_of_kind g k (f i)) 1 0) same
    (sum_by-map-range_with_len_more (λ p. cond (is_of_kind g k p) 1 0) f 0 i i (omega arith))

-- what is counted from a run's first vertex on
pub counted_to : (g : Grid) (k : Kind) (counts : List ℕ) (run : Run) → AreCounts g k run.direction counts → IsStraightRun (size_of g) run → (i : ℕ) → i ≤ run.count → slice_index counts (run.first.0 + i * rise run.direction (size_of g)) ≡ slice_index counts run.first.0 + kind_count g k (map (run_piece (size_of g) run) (range_with_len 0 i))
counted_to g k counts run are is zero within =
    let none : run.first.0 + 0 * rise run.direction (size_of g) ≡ run.first.0 = omega arith in ap (slice_index counts) none ∙ omega arith
counted_to g k counts run are is (suc i) within =
    let step = rise run.direction (size_of g) in
    let at = run.first.0 + i * step in
    let f = run_piece (size_of g) run in
    let on : run.first.0 + suc i * step ≡ at + step = omega arith in
    let room : at + step < vertices (size_of g) =
    omega (arith, run_ends (size_of g) run is, mul-le (suc i) step run.count step within (omega arith)) in
    let before = counted_to g k counts run are is i (omega (arith, within)) in
    let one = are.next at room in
    ap (slice_index counts) on ∙ omega (arith, before, one, grown g k f i)

-- what a run has by the counts at its two ends
pub counted_in_all : (g : Grid) (k : Kind) (counts : List ℕ) (run : Run) → AreCounts g k run.direction counts → IsStraightRun (size_of g) run → slice_index counts (run_end (size_of g) run) ≡ slice_index counts run.first.0 + kind_count g k (run_pieces (size_of g) run)
counted_in_all g k counts run are is = counted_to g k counts run are is run.count (omega arith)

vias_have_none : (g : Grid) (k : Kind) (s : Size) (v n : ℕ) → kind_count g k (map (nth_piece s Up v) (range_with_len 0 n)) ≡ 0
vias_have_none g k s v zero = refl
vias_have_none g k s v (suc n) = omega (arith, grown g k (nth_piece s Up v) n, vias_have_none g k s v n)

-- a run of vias has no edge
pub no_edges : (g : Grid) (k : Kind) (s : Size) (run : Run) → run.direction ≡ Up → kind_count g k (run_pieces s run) ≡ 0
no_edges g k s run up =
    ap (λ d. kind_count g k (map (nth_piece s d run.first.0) (range_with_len 0 run.count))) up ∙ vias_have_none g k s run.first.0 run.count
