-- Where runs end, and what their pieces are when all are counted line by line.
use Rattle.std.proofs.Common.{◌≡◌, ℕ, ◌+◌, ◌-◌, ◌*◌, ◌/◌, ◌%◌, ◌<◌, ◌≤◌, ◌⊎◌, refl, ◌∙◌, ap, subst, inl, inr, ⊎_elim, arith}
use Rattle.std.proofs.Math.Nat.{add-mul-mod_self_right, add-mul-div_right, mul-div_cancel, mod-add-div'}
use Rattle.std.proofs.lemmas.Bool.{cases_lt, cases_eq}
use Rattle.std.proofs.lemmas.Nat.{mul-le, div_below, mod_below}
use Rattle.grid_base.specs.declared.axis.Axis.{Axis}
use Rattle.grid_base.specs.declared.axis.Axis.TheVariants.{X, Y}
use Rattle.grid_base.specs.declared.piece.Piece.{Piece}
use Rattle.grid_base.specs.declared.piece.Piece.TheVariants.{Edge, Via}
use Rattle.grid_base.specs.declared.size.Size.{Size}
use Rattle.grid_base.specs.Numbers.{IsVertex, vertices, cols, rows, layers, start_of, end_of, edge_start, edge_axis}
use Rattle.grid_base.proofs.Pieces.{is_even, is_odd, start_of-to_next_col, start_of-to_next_row, end_of-to_next_col, end_of-to_next_row, end_of-to_next_layer, end_of-vertex}
use Rattle.straight_runs.specs.declared.direction.Direction.{Direction}
use Rattle.straight_runs.specs.declared.direction.Direction.TheVariants.{East, North, Up}
use Rattle.straight_runs.specs.declared.run.Run.{Run}
use Rattle.straight_runs.specs.Lines.{rise, piece_towards, counted_before, line_number}
use Rattle.straight_runs.specs.Merging.{IsBehind, IsPast}
use Rattle.straight_runs.specs.Runs.{IsStraightRun, run_number, run_piece}

pub rise-positive : (d : Direction) (s : Size) → 1 ≤ rise d s
rise-positive East s = omega arith
rise-positive North s = s.within.has_col
rise-positive Up s = mul-le 1 1 (cols s) (rows s) s.within.has_col s.within.has_row

pub start_of-towards : (d : Direction) (v : ℕ) → start_of (piece_towards d v) ≡ v
start_of-towards East v = start_of-to_next_col v
start_of-towards North v = start_of-to_next_row v
start_of-towards Up v = refl

pub end_of-towards : (s : Size) (d : Direction) (v : ℕ) → end_of s (piece_towards d v) ≡ v + rise d s
end_of-towards s East v = end_of-to_next_col s v
end_of-towards s North v = end_of-to_next_row s v
end_of-towards s Up v = end_of-to_next_layer s v

-- the first vertex of a run, and so each other one
pub run_begins : (s : Size) (run : Run) → IsStraightRun s run → IsVertex s run.first.0
run_begins s run is =
    let d = run.direction in
    let same : start_of (run_piece s run 0) ≡ run.first.0 = start_of-towards d (run.first.0 + 0 * rise d s) ∙ omega arith in
    subst (IsVertex s) same (is.each 0 is.some).0

-- where it ends is a vertex too
pub run_ends : (s : Size) (run : Run) → IsStraightRun s run → IsVertex s (run.first.0 + run.count * rise run.direction s)
run_ends s run is =
    let d = run.direction in
    let i = run.count - 1 in
    let last : i < run.count = omega (arith, is.some) in
    let long : run.count ≡ i + 1 = omega (arith, is.some) in
    let same : end_of s (run_piece s run i) ≡ run.first.0 + run.count * rise d s =
    end_of-towards s d (run.first.0 + i * rise d s) ∙ omega (arith, ap (λ n. n * rise d s) long) in
    subst (IsVertex s) same (end_of-vertex s (run_piece s run i) (is.each i last))

-- how many vertices a line of a direction has, through all that lies behind one another
per_line : Direction → Size → ℕ
per_line East s = vertices s
per_line North s = rows s * layers s
per_line Up s = layers s

lines_are_whole : (d : Direction) (s : Size) → vertices s ≡ per_line d s * rise d s
unfolding per_line
lines_are_whole East s = omega arith
lines_are_whole North s = omega arith
lines_are_whole Up s = omega arith

lines_counted : (d : Direction) (s : Size) → vertices s / rise d s ≡ per_line d s
lines_counted d s = ap (λ n. n / rise d s) (lines_are_whole d s) ∙ mul-div_cancel (per_line d s) (rise-positive d s)

pub column_counted : (s : Size) → vertices s / cols s ≡ rows s * layers s
unfolding per_line
column_counted s = lines_counted North s

pub stack_counted : (s : Size) → vertices s / (cols s * rows s) ≡ layers s
unfolding per_line
stack_counted s = lines_counted Up s

-- the next piece of a line is counted next
pub line_number-on : (s : Size) (d : Direction) (v i : ℕ) → line_number s d (v + i * rise d s) ≡ line_number s d v + i
line_number-on s d v i =
    rw (add-mul-mod_self_right v i (rise d s), add-mul-div_right v i (rise-positive d s)) (omega arith)

-- a number in a line, and so many more, are below what the line has
in_line : (v k n c : ℕ) → 1 ≤ k → v + c * k < n * k → (v % k < k) × (v / k + c < n)
in_line v k n c some below =
    (mod_below v k some, subst (λ q. q < n) (add-mul-div_right v c some) (div_below (v + c * k) k n some below))

below_all : (m q k n : ℕ) → m < k → q < n → m * n + q < n * k
below_all m q k n line place =
    let whole = mul-le (m + 1) n k n (omega arith) (omega arith) in omega (arith, whole)

run_in_line : (s : Size) (run : Run) → IsStraightRun s run → (run.first.0 % rise run.direction s < rise run.direction s) × (run.first.0 / rise run.direction s + run.count < per_line run.direction s)
run_in_line s run is =
    let d = run.direction in
    in_line run.first.0 (rise d s) (per_line d s) run.count (rise-positive d s)
    (subst (λ n. run.first.0 + run.count * rise d s < n) (lines_are_whole d s) (run_ends s run is))

run_number-is : (s : Size) (run : Run) → run_number s run ≡ counted_before s run.direction + run.first.0 % rise run.direction s * per_line run.direction s + run.first.0 / rise run.direction s
run_number-is s run =
    let d = run.direction in
    ap (λ n. counted_before s d + run.first.0 % rise d s * n + run.first.0 / rise d s) (lines_counted d s)

-- a run's pieces are counted among those of its direction
run_within : (s : Size) (run : Run) → IsStraightRun s run → (counted_before s run.direction ≤ run_number s run) × (run_number s run + run.count < counted_before s run.direction + vertices s)
run_within s run is =
    let d = run.direction in
    let line = run_in_line s run is in
    let all = below_all (run.first.0 % rise d s) (run.first.0 / rise d s + run.count) (rise d s) (per_line d s) line.0 line.1 in
    (omega arith, omega (arith, all, run_number-is s run, lines_are_whole d s))

-- two directions are one, or all pieces of the one are counted before those of the other
directions : (s : Size) (d e : Direction) → (d ≡ e) ⊎ ((counted_before s d + vertices s ≤ counted_before s e) ⊎ (counted_before s e + vertices s ≤ counted_before s d))
directions s East East = inl refl
directions s East North = inr (inl (omega arith))
directions s East Up = inr (inl (omega arith))
directions s North East = inr (inr (omega arith))
directions s North North = inl refl
directions s North Up = inr (inl (omega arith))
directions s Up East = inr (inr (omega arith))
directions s Up North = inr (inr (omega arith))
directions s Up Up = inl refl

-- two places, counted line by line, are on one line, or more than fits on the line of the first is passed at the second
lines : (m q c p r n : ℕ) → q + c < n → r < n → m * n + q ≤ p * n + r → (m ≡ p) ⊎ (m * n + q + c < p * n + r)
lines m q c p r n first second order =
    ⊎_elim
    (λ (below : m < p). inr (omega (arith, mul-le (m + 1) n p n (omega arith) (omega arith))))
    (λ (above : p ≤ m). ⊎_elim
    (λ (same : m ≡ p). inl same)
    (λ (other : m ≡ p → ⊥). absurd (omega (arith, mul-le (p + 1) n m n (omega arith) (omega arith))))
    (cases_eq m p))
    (cases_lt m p)

-- a run of these parts
abbrev part : Direction → ℕ → ℕ → Run
part d v count = record { direction = d; first = record { 0 = v }; count = count }

-- two runs of one direction, of which the second neither begins on the line of the first behind its begin and up to its end
past_along : (s : Size) (d : Direction) (v a w b : ℕ) → IsStraightRun s (part d v a) → IsStraightRun s (part d w b) → ((apart : ℕ) → w ≡ v + apart * rise d s → a < apart) → run_number s (part d v a) ≤ run_number s (part d w b) → run_number s (part d v a) + a < run_number s (part d w b)
past_along s d v a w b first second past order =
    let k = rise d s in
    let n = per_line d s in
    let one = run_in_line s (part d v a) first in
    let two = run_in_line s (part d w b) second in
    let here = run_number-is s (part d v a) in
    let there = run_number-is s (part d w b) in
    let place : w / k < n = omega (arith, two.1) in
    let sorted : v % k * n + v / k ≤ w % k * n + w / k = omega (arith, here, there, order) in
    ⊎_elim
    (λ (same : v % k ≡ w % k).
    let rows_same : v % k * n ≡ w % k * n = ap (λ m. m * n) same in
    let apart = w / k - v / k in
    let on : w / k ≡ v / k + apart = omega (arith, sorted, rows_same) in
    let steps : w / k * k ≡ v / k * k + apart * k = omega (arith, ap (λ q. q * k) on) in
    let far : a < apart = past apart (omega (arith, mod-add-div' v k, mod-add-div' w k, steps, same)) in
    omega (arith, here, there, rows_same, on, far))
    (λ (passed : v % k * n + v / k + a < w % k * n + w / k). omega (arith, here, there, passed))
    (lines (v % k) (v / k) a (w % k) (w / k) n one.1 place sorted)

-- what doesn't go on with a run and is counted no earlier is counted past its end, and not next behind it
pub run_past : (s : Size) (run next : Run) → IsStraightRun s run → IsStraightRun s next → IsPast s run next → run_number s run ≤ run_number s next → run_number s run + run.count < run_number s next
run_past s run next is_run is_next past order =
    let first = run_within s run is_run in
    let second = run_within s next is_next in
    ⊎_elim
    (λ (same : run.direction ≡ next.direction).
    let P : Direction → Type 0 = λ e. IsStraightRun s (part e next.first.0 next.count) → ((apart : ℕ) → (e ≡ run.direction) × (next.first.0 ≡ run.first.0 + apart * rise run.direction s) → run.count < apart)
    → run_number s run ≤ run_number s (part e next.first.0 next.count) → run_number s run + run.count < run_number s (part e next.first.0 next.count) in
    let along : P run.direction = λ is behind up. past_along s run.direction run.first.0 run.count next.first.0 next.count is_run is (λ apart at. behind apart (refl, at)) up in
    subst P same along is_next past order)
    (λ other. ⊎_elim (λ below. omega (arith, below, first.1, second.0)) (λ above. absurd (omega (arith, above, first.0, second.1, order))) other)
    (directions s run.direction next.direction)

-- a run that begins behind another on its line is counted so many pieces behind it
run_behind : (s : Size) (run next : Run) (apart : ℕ) → IsBehind s run next apart → run_number s next ≡ run_number s run + apart
run_behind s run next apart behind =
    ap (λ d. line_number s d next.first.0) behind.0 ∙ ap (line_number s run.direction) behind.1 ∙ line_number-on s run.direction run.first.0 apart

-- runs of which the one is counted past the other's end, and not next behind it, are apart
pub apart_by_number : (s : Size) (run next : Run) → run_number s run + run.count < run_number s next → IsPast s run next × IsPast s next run
apart_by_number s run next far = (
  λ apart behind. omega (arith, far, run_behind s run next apart behind),
  λ apart behind. absurd (omega (arith, far, run_behind s next run apart behind)),
)

-- the number of a piece, when all are counted line by line
number_along : Size → Axis → ℕ → ℕ
number_along s X v = line_number s East v
number_along s Y v = line_number s North v

pub piece_number : Size → Piece → ℕ
piece_number s (Edge e) = number_along s (edge_axis e.0) (edge_start e.0)
piece_number s (Via v) = line_number s Up v.0

piece_number-towards : (s : Size) (d : Direction) (v : ℕ) → piece_number s (piece_towards d v) ≡ line_number s d v
unfolding piece_number number_along
piece_number-towards s East v = rw (is_even v) (ap (line_number s East) (start_of-to_next_col v))
piece_number-towards s North v = rw (is_odd v) (ap (line_number s North) (start_of-to_next_row v))
piece_number-towards s Up v = refl

pub piece_number-run : (s : Size) (run : Run) (i : ℕ) → piece_number s (run_piece s run i) ≡ run_number s run + i
piece_number-run s run i =
    let d = run.direction in
    piece_number-towards s d (run.first.0 + i * rise d s) ∙ line_number-on s d run.first.0 i

-- each vertex of a run is one of the grid
pub vertex_on_run : (s : Size) (run : Run) (i : ℕ) → IsStraightRun s run → i ≤ run.count → run.first.0 + i * rise run.direction s < vertices s
vertex_on_run s run i is within =
    omega (arith, run_ends s run is, mul-le i (rise run.direction s) run.count (rise run.direction s) within (omega arith))
