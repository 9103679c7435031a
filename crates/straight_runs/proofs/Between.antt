-- The pieces between two places in line are those of a run along x, of a run along y and of a stack of vias from the lowest of
-- the places on.
use Rattle.std.proofs.Common.{◌≡◌, ℕ, ◌+◌, ◌-◌, ◌*◌, ◌<◌, ◌⊎◌, min, Some, None, refl, sym, ◌∙◌, ap, subst, inl, inr, ⊎_elim, arith}
use Rattle.std.specs.Int.{abs_diff}
use Rattle.grid_base.specs.declared.piece.Piece.{Piece}
use Rattle.grid_base.specs.declared.place.Place.{Place}
use Rattle.grid_base.specs.declared.size.Size.{Size}
use Rattle.grid_base.specs.Lines.{AreInLine, IsBetween, IsFromTo}
use Rattle.grid_base.specs.Numbers.{IsVertex, IsInside, vertex_number, cols, rows, place_at, col_of, row_of, layer_of, start_of, end_place, to_next_col, to_next_row, to_next_layer}
use Rattle.grid_base.proofs.Places.{vertex_number-place, place_at-number, vertex_number-inside}
use Rattle.grid_base.proofs.Pieces.{by_kind, end_place-to_next_col, end_place-to_next_row, start_of-to_next_col, start_of-to_next_row}
use Rattle.straight_runs.specs.declared.direction.Direction.{Direction}
use Rattle.straight_runs.specs.declared.direction.Direction.TheVariants.{East, North, Up}
use Rattle.straight_runs.specs.declared.run.Run.{Run}
use Rattle.straight_runs.specs.Between.{IsRunBetween, RunsBetween, lowest_corner}
use Rattle.straight_runs.specs.Lines.{nth_piece}
use Rattle.straight_runs.proofs.Merges.{in_run, of_run}

-- one of so many pieces that follow each other in a direction from a vertex on
abbrev pub IsOnLine : Size → Direction → ℕ → ℕ → Piece → Type 0
IsOnLine s d start count p = (i : ℕ) × (i < count) × (p ≡ nth_piece s d start i)

-- the piece goes from a place to a place
record IsStep (s : Size) (p : Piece) (from to : Place) : Type 0 where
  vertex : IsVertex s (start_of p)
  starts : place_at s (start_of p) ≡ from
  ends : end_place s p ≡ to

abbrev at : ℕ → ℕ → ℕ → Place
at col row layer = record { col = col; row = row; layer = layer }

col_step : (s : Size) (col row layer i : ℕ) → IsInside s (at (col + i) row layer) → IsStep s (to_next_col (vertex_number s col row layer + i * 1)) (at (col + i) row layer) (at (col + i + 1) row layer)
col_step s col row layer i inside =
    let u = vertex_number s col row layer + i * 1 in
    let is : u ≡ vertex_number s (col + i) row layer = omega arith in
    let here : place_at s u ≡ at (col + i) row layer = ap (place_at s) is ∙ place_at-number s (col + i) row layer inside.0 inside.1 in
    record {
      vertex = subst (IsVertex s) (sym is ∙ sym (start_of-to_next_col u)) (vertex_number-inside s (at (col + i) row layer) inside);
      starts = ap (place_at s) (start_of-to_next_col u) ∙ here;
      ends = end_place-to_next_col s u ∙ ap (λ (q : Place). at (q.col + 1) q.row q.layer) here;
    }

row_step : (s : Size) (col row layer i : ℕ) → IsInside s (at col (row + i) layer) → IsStep s (to_next_row (vertex_number s col row layer + i * cols s)) (at col (row + i) layer) (at col (row + i + 1) layer)
row_step s col row layer i inside =
    let u = vertex_number s col row layer + i * cols s in
    let is : u ≡ vertex_number s col (row + i) layer = omega arith in
    let here : place_at s u ≡ at col (row + i) layer = ap (place_at s) is ∙ place_at-number s col (row + i) layer inside.0 inside.1 in
    record {
      vertex = subst (IsVertex s) (sym is ∙ sym (start_of-to_next_row u)) (vertex_number-inside s (at col (row + i) layer) inside);
      starts = ap (place_at s) (start_of-to_next_row u) ∙ here;
      ends = end_place-to_next_row s u ∙ ap (λ (q : Place). at q.col (q.row + 1) q.layer) here;
    }

number_above : (s : Size) (col row layer i : ℕ) → vertex_number s col row layer + i * (cols s * rows s) ≡ vertex_number s col row (layer + i)
number_above s col row layer i = omega arith

layer_step : (s : Size) (col row layer i : ℕ) → IsInside s (at col row (layer + i)) → IsStep s (to_next_layer (vertex_number s col row layer + i * (cols s * rows s))) (at col row (layer + i)) (at col row (layer + i + 1))
layer_step s col row layer i inside =
    let u = vertex_number s col row layer + i * (cols s * rows s) in
    let is : u ≡ vertex_number s col row (layer + i) = number_above s col row layer i in
    let here : place_at s u ≡ at col row (layer + i) = ap (place_at s) is ∙ place_at-number s col row (layer + i) inside.0 inside.1 in
    record {
      vertex = subst (IsVertex s) (sym is) (vertex_number-inside s (at col row (layer + i)) inside);
      starts = here;
      ends = ap (λ (q : Place). at q.col q.row (q.layer + 1)) here;
    }

step_between : (s : Size) (p : Piece) (from to near far : Place) → IsStep s p near far → IsInside s far → IsBetween from to near → IsBetween from to far → RunsBetween s from to p
step_between s p from to near far step inside starts ends = record {
  of_grid = (step.vertex, subst (IsInside s) (sym step.ends) inside);
  start = subst (IsBetween from to) (sym step.starts) starts;
  end = subst (IsBetween from to) (sym step.ends) ends;
}

pub across : (s : Size) (from to : Place) (i : ℕ) → IsInside s from → IsInside s to → i < abs_diff from.col to.col → RunsBetween s from to (to_next_col (lowest_corner s from to + i * 1))
across s from to i in_from in_to below =
    let col = min from.col to.col in
    let row = min from.row to.row in
    let layer = min from.layer to.layer in
    step_between s (to_next_col (lowest_corner s from to + i * 1)) from to (at (col + i) row layer) (at (col + i + 1) row layer)
    (col_step s col row layer i (omega (arith, in_from.0, in_to.0, below), omega (arith, in_from.1), omega (arith, in_from.2)))
    (omega (arith, in_from.0, in_to.0, below), omega (arith, in_from.1), omega (arith, in_from.2))
    (record { col = (omega arith, omega (arith, below)); row = (omega arith, omega arith); layer = (omega arith, omega arith) })
    (record { col = (omega arith, omega (arith, below)); row = (omega arith, omega arith); layer = (omega arith, omega arith) })

pub along : (s : Size) (from to : Place) (i : ℕ) → IsInside s from → IsInside s to → i < abs_diff from.row to.row → RunsBetween s from to (to_next_row (lowest_corner s from to + i * cols s))
along s from to i in_from in_to below =
    let col = min from.col to.col in
    let row = min from.row to.row in
    let layer = min from.layer to.layer in
    step_between s (to_next_row (lowest_corner s from to + i * cols s)) from to (at col (row + i) layer) (at col (row + i + 1) layer)
    (row_step s col row layer i (omega (arith, in_from.0), omega (arith, in_from.1, in_to.1, below), omega (arith, in_from.2)))
    (omega (arith, in_from.0), omega (arith, in_from.1, in_to.1, below), omega (arith, in_from.2))
    (record { col = (omega arith, omega arith); row = (omega arith, omega (arith, below)); layer = (omega arith, omega arith) })
    (record { col = (omega arith, omega arith); row = (omega arith, omega (arith, below)); layer = (omega arith, omega arith) })

pub through : (s : Size) (from to : Place) (i : ℕ) → IsInside s from → IsInside s to → i < abs_diff from.layer to.layer → RunsBetween s from to (to_next_layer (lowest_corner s from to + i * (cols s * rows s)))
through s from to i in_from in_to below =
    let col = min from.col to.col in
    let row = min from.row to.row in
    let layer = min from.layer to.layer in
    step_between s (to_next_layer (lowest_corner s from to + i * (cols s * rows s))) from to (at col row (layer + i)) (at col row (layer + i + 1))
    (layer_step s col row layer i (omega (arith, in_from.0), omega (arith, in_from.1), omega (arith, in_from.2, in_to.2, below)))
    (omega (arith, in_from.0), omega (arith, in_from.1), omega (arith, in_from.2, in_to.2, below))
    (record { col = (omega arith, omega arith); row = (omega arith, omega arith); layer = (omega arith, omega (arith, below)) })
    (record { col = (omega arith, omega arith); row = (omega arith, omega arith); layer = (omega arith, omega (arith, below)) })

beside : (m n k : ℕ) → m ≡ n → IsFromTo m n k → k ≡ min m n
beside m n k same between = omega (arith, between.0, between.1)

-- a step along one number leaves the others as they are
alone : (a b c : ℕ) (m n k : ℕ) (o p q : ℕ) → ((m ≡ n) × (o ≡ p)) ⊎ (a ≡ b) → IsFromTo a b c → IsFromTo a b (c + 1) → IsFromTo m n k → IsFromTo o p q → (k ≡ min m n) × (q ≡ min o p)
alone a b c m n k o p q same near far other last =
    ⊎_elim
    (λ both. (beside m n k both.0 other, beside o p q both.1 last))
    (λ one. absurd (omega (arith, one, near.0, near.1, far.0, far.1)))
    same

-- the number of a vertex whose place is so far from the lowest
number_at : (s : Size) (u col row layer : ℕ) → col_of s u ≡ col → row_of s u ≡ row → layer_of s u ≡ layer → u ≡ vertex_number s col row layer
number_at s u col row layer in_col in_row in_layer =
    sym (vertex_number-place s u) ∙ ap (λ c. vertex_number s c (row_of s u) (layer_of s u)) in_col
    ∙ ap (λ r. vertex_number s col r (layer_of s u)) in_row ∙ ap (vertex_number s col row) in_layer

-- a piece between two places in line is one of the three
abbrev pub IsOneBetween : Size → Place → Place → Piece → Type 0
IsOneBetween s from to p =
    (IsOnLine s East (lowest_corner s from to) (abs_diff from.col to.col) p ⊎ IsOnLine s North (lowest_corner s from to) (abs_diff from.row to.row) p)
    ⊎ IsOnLine s Up (lowest_corner s from to) (abs_diff from.layer to.layer) p

col_between : (s : Size) (from to : Place) (u : ℕ) → AreInLine from to → RunsBetween s from to (to_next_col u) → IsOnLine s East (lowest_corner s from to) (abs_diff from.col to.col) (to_next_col u)
col_between s from to u straight runs =
    let near : IsBetween from to (place_at s u) = subst (λ v. IsBetween from to (place_at s v)) (start_of-to_next_col u) runs.start in
    let far : IsBetween from to (at (col_of s u + 1) (row_of s u) (layer_of s u)) = subst (IsBetween from to) (end_place-to_next_col s u) runs.end in
    let others = alone from.col to.col (col_of s u) from.row to.row (row_of s u) from.layer to.layer (layer_of s u)
    (⊎_elim (λ x. inl x) (λ rest. ⊎_elim (λ y. inr y.0) (λ z. inr z.0) rest) straight) near.col far.col near.row near.layer in
    let i = col_of s u - min from.col to.col in
    let is : u ≡ vertex_number s (min from.col to.col + i) (min from.row to.row) (min from.layer to.layer) =
    number_at s u (min from.col to.col + i) (min from.row to.row) (min from.layer to.layer) (omega (arith, near.col.0)) others.0 others.1 in
    let same : u ≡ lowest_corner s from to + i * 1 = is ∙ omega arith in
    (i, omega (arith, near.col.0, far.col.1), ap to_next_col same)

row_between : (s : Size) (from to : Place) (u : ℕ) → AreInLine from to → RunsBetween s from to (to_next_row u) → IsOnLine s North (lowest_corner s from to) (abs_diff from.row to.row) (to_next_row u)
row_between s from to u straight runs =
    let near : IsBetween from to (place_at s u) = subst (λ v. IsBetween from to (place_at s v)) (start_of-to_next_row u) runs.start in
    let far : IsBetween from to (at (col_of s u) (row_of s u + 1) (layer_of s u)) = subst (IsBetween from to) (end_place-to_next_row s u) runs.end in
    let others = alone from.row to.row (row_of s u) from.col to.col (col_of s u) from.layer to.layer (layer_of s u)
    (⊎_elim (λ x. inr x.0) (λ rest. ⊎_elim (λ y. inl y) (λ z. inr z.1) rest) straight) near.row far.row near.col near.layer in
    let i = row_of s u - min from.row to.row in
    let is : u ≡ vertex_number s (min from.col to.col) (min from.row to.row + i) (min from.layer to.layer) =
    number_at s u (min from.col to.col) (min from.row to.row + i) (min from.layer to.layer) others.0 (omega (arith, near.row.0)) others.1 in
    let same : u ≡ lowest_corner s from to + i * cols s = is ∙ omega arith in
    (i, omega (arith, near.row.0, far.row.1), ap to_next_row same)

layer_between : (s : Size) (from to : Place) (u : ℕ) → AreInLine from to → RunsBetween s from to (to_next_layer u) → IsOnLine s Up (lowest_corner s from to) (abs_diff from.layer to.layer) (to_next_layer u)
layer_between s from to u straight runs =
    let near : IsBetween from to (place_at s u) = runs.start in
    let far : IsBetween from to (at (col_of s u) (row_of s u) (layer_of s u + 1)) = runs.end in
    let others = alone from.layer to.layer (layer_of s u) from.col to.col (col_of s u) from.row to.row (row_of s u)
    (⊎_elim (λ x. inr x.1) (λ rest. ⊎_elim (λ y. inr y.1) (λ z. inl z) rest) straight) near.layer far.layer near.col near.row in
    let i = layer_of s u - min from.layer to.layer in
    let is : u ≡ vertex_number s (min from.col to.col) (min from.row to.row) (min from.layer to.layer + i) =
    number_at s u (min from.col to.col) (min from.row to.row) (min from.layer to.layer + i) others.0 others.1 (omega (arith, near.layer.0)) in
    let same : u ≡ lowest_corner s from to + i * (cols s * rows s) = is ∙ sym (number_above s (min from.col to.col) (min from.row to.row) (min from.layer to.layer) i) in
    (i, omega (arith, near.layer.0, far.layer.1), ap to_next_layer same)

pub one_between : (s : Size) (from to : Place) → AreInLine from to → (p : Piece) → RunsBetween s from to p → IsOneBetween s from to p
one_between s from to straight =
    by_kind (λ p. RunsBetween s from to p → IsOneBetween s from to p)
    (λ u runs. inl (inl (col_between s from to u straight runs)))
    (λ u runs. inl (inr (row_between s from to u straight runs)))
    (λ u runs. inr (layer_between s from to u straight runs))

-- and each of these is between them
pub between_one : (s : Size) (from to : Place) → IsInside s from → IsInside s to → (p : Piece) → IsOneBetween s from to p → RunsBetween s from to p
between_one s from to in_from in_to p =
    ⊎_elim
    (λ edge. ⊎_elim
    (λ x. subst (RunsBetween s from to) (sym x.2) (across s from to x.0 in_from in_to x.1))
    (λ y. subst (RunsBetween s from to) (sym y.2) (along s from to y.0 in_from in_to y.1))
    edge)
    (λ via. subst (RunsBetween s from to) (sym via.2) (through s from to via.0 in_from in_to via.1))

-- the run from the lowest place in a direction
abbrev pub run_from : Size → Place → Place → Direction → ℕ → Run
run_from s from to d count = record { direction = d; first = record { 0 = lowest_corner s from to }; count = count }

-- it is the run between two places if it has their pieces
one_run : (s : Size) (from to : Place) (d : Direction) (count : ℕ) → 0 < count → ((p : Piece) → IsOnLine s d (lowest_corner s from to) count p → RunsBetween s from to p) → ((p : Piece) → RunsBetween s from to p → IsOnLine s d (lowest_corner s from to) count p) → IsRunBetween s from to (Some (run_from s from to d count))
one_run s from to d count some inside only =
    let run = run_from s from to d count in (
      record { some = some; each = λ i below. (inside (nth_piece s d (lowest_corner s from to) i) (i, below, refl)).of_grid },
      λ p. (λ held. inside p (of_run s run p held), λ runs. in_run s run p (only p runs)),
    )

none_of : (s : Size) (d : Direction) (start count : ℕ) (p : Piece) → count ≡ 0 → IsOnLine s d start count p → ⊥
none_of s d start count p none one = omega (arith, none, one.1)

module _ (s : Size) (from to : Place) (in_from : IsInside s from) (in_to : IsInside s to) (straight : AreInLine from to) where
  pub across_run : 0 < abs_diff from.col to.col → IsRunBetween s from to (Some (run_from s from to East (abs_diff from.col to.col)))
  across_run some =
      let level : (abs_diff from.row to.row ≡ 0) × (abs_diff from.layer to.layer ≡ 0) =
      ⊎_elim (λ x. (omega (arith, x.0), omega (arith, x.1))) (λ rest. ⊎_elim (λ y. absurd (omega (arith, y.0, some))) (λ z. absurd (omega (arith, z.0, some))) rest) straight in
      one_run s from to East (abs_diff from.col to.col) some
      (λ p one. between_one s from to in_from in_to p (inl (inl one)))
      (λ p runs. ⊎_elim
      (λ edge. ⊎_elim (λ x. x) (λ y. absurd (none_of s North (lowest_corner s from to) (abs_diff from.row to.row) p level.0 y)) edge)
      (λ via. absurd (none_of s Up (lowest_corner s from to) (abs_diff from.layer to.layer) p level.1 via))
      (one_between s from to straight p runs))

  pub along_run : abs_diff from.col to.col ≡ 0 → 0 < abs_diff from.row to.row → IsRunBetween s from to (Some (run_from s from to North (abs_diff from.row to.row)))
  along_run upright some =
      let level : abs_diff from.layer to.layer ≡ 0 =
      ⊎_elim (λ x. omega (arith, x.1)) (λ rest. ⊎_elim (λ y. omega (arith, y.1)) (λ z. absurd (omega (arith, z.1, some))) rest) straight in
      one_run s from to North (abs_diff from.row to.row) some
      (λ p one. between_one s from to in_from in_to p (inl (inr one)))
      (λ p runs. ⊎_elim
      (λ edge. ⊎_elim (λ x. absurd (none_of s East (lowest_corner s from to) (abs_diff from.col to.col) p upright x)) (λ y. y) edge)
      (λ via. absurd (none_of s Up (lowest_corner s from to) (abs_diff from.layer to.layer) p level via))
      (one_between s from to straight p runs))

  pub through_run : abs_diff from.col to.col ≡ 0 → abs_diff from.row to.row ≡ 0 → 0 < abs_diff from.layer to.layer → IsRunBetween s from to (Some (run_from s from to Up (abs_diff from.layer to.layer)))
  through_run upright level some =
      one_run s from to Up (abs_diff from.layer to.layer) some
      (λ p one. between_one s from to in_from in_to p (inr one))
      (λ p runs. ⊎_elim
      (λ edge. ⊎_elim
      (λ x. absurd (none_of s East (lowest_corner s from to) (abs_diff from.col to.col) p upright x))
      (λ y. absurd (none_of s North (lowest_corner s from to) (abs_diff from.row to.row) p level y)) edge)
      (λ via. via)
      (one_between s from to straight p runs))

  -- nothing lies between a place and itself
  pub nothing_between : abs_diff from.col to.col ≡ 0 → abs_diff from.row to.row ≡ 0 → abs_diff from.layer to.layer ≡ 0 → IsRunBetween s from to None
  nothing_between upright level flat p runs =
      ⊎_elim
      (λ edge. ⊎_elim
      (λ x. none_of s East (lowest_corner s from to) (abs_diff from.col to.col) p upright x)
      (λ y. none_of s North (lowest_corner s from to) (abs_diff from.row to.row) p level y) edge)
      (λ via. none_of s Up (lowest_corner s from to) (abs_diff from.layer to.layer) p flat via)
      (one_between s from to straight p runs)
