-- Edges along an axis one behind the other, and the pieces between two places in line.
use Rattle.std.proofs.Common.{◌≡◌, ℕ, zero, suc, ◌+◌, ◌-◌, ◌*◌, ◌<◌, ◌≤◌, true, refl, sym, ◌∙◌, ap, subst, inl, inr, arith}
use Rattle.grid_base.specs.declared.axis.Axis.{Axis}
use Rattle.grid_base.specs.declared.axis.Axis.TheVariants.{X, Y}
use Rattle.grid_base.specs.declared.piece.Piece.{Piece}
use Rattle.grid_base.specs.declared.place.Place.{Place}
use Rattle.grid_base.specs.declared.size.Size.{Size}
use Rattle.grid_base.specs.Lines.{is_along, edge_from, stride, AreInLine, IsBetween}
use Rattle.grid_base.specs.Numbers.{IsPiece, IsVertex, vertex_number, cols, place_at, col_of, row_of, layer_of, start_of, end_of, end_place, to_next_col, to_next_row, to_next_layer}
use Rattle.grid_base.proofs.Places.{vertex_number-place}
use Rattle.grid_base.proofs.Pieces.{is_even, is_odd, by_kind, place_at-end_of, end_of-vertex, end_of-to_next_col, end_of-to_next_row, end_place-to_next_col, end_place-to_next_row, start_of-to_next_col, start_of-to_next_row}

pub stride-positive : (s : Size) (axis : Axis) → 1 ≤ stride axis s
stride-positive s X = omega arith
stride-positive s Y = s.within.has_col

pub start_of-edge_from : (axis : Axis) (v : ℕ) → start_of (edge_from axis v) ≡ v
start_of-edge_from X v = start_of-to_next_col v
start_of-edge_from Y v = start_of-to_next_row v

pub end_of-edge_from : (s : Size) (axis : Axis) (v : ℕ) → end_of s (edge_from axis v) ≡ v + stride axis s
end_of-edge_from s X v = end_of-to_next_col s v
end_of-edge_from s Y v = end_of-to_next_row s v

pub is_along-edge_from : (axis : Axis) (v : ℕ) → is_along axis (edge_from axis v) ≡ true
is_along-edge_from X v = rw (is_even v) refl
is_along-edge_from Y v = rw (is_odd v) refl

-- an edge along an axis is the one from its start
pub edge_from-start_of : (axis : Axis) (p : Piece) → is_along axis p ≡ true → p ≡ edge_from axis (start_of p)
edge_from-start_of X =
    by_kind (λ p. is_along X p ≡ true → p ≡ edge_from X (start_of p))
    (λ v along. sym (ap to_next_col (start_of-to_next_col v)))
    (λ v along. absurd (cc (rw (is_odd v) at along)))
    (λ v along. cc)
edge_from-start_of Y =
    by_kind (λ p. is_along Y p ≡ true → p ≡ edge_from Y (start_of p))
    (λ v along. absurd (cc (rw (is_even v) at along)))
    (λ v along. sym (ap to_next_row (start_of-to_next_row v)))
    (λ v along. cc)

pub end_of-along : (s : Size) (axis : Axis) (p : Piece) → is_along axis p ≡ true → end_of s p ≡ start_of p + stride axis s
end_of-along s axis p along = ap (end_of s) (edge_from-start_of axis p along) ∙ end_of-edge_from s axis (start_of p)

-- the place this many steps further along an axis
abbrev pub moved : Axis → ℕ → Place → Place
moved X k p = record { col = p.col + k; row = p.row; layer = p.layer }
moved Y k p = record { col = p.col; row = p.row + k; layer = p.layer }

-- the place one layer higher
abbrev pub above : Place → Place
above p = record { col = p.col; row = p.row; layer = p.layer + 1 }

moved-none : (axis : Axis) (p : Place) → moved axis 0 p ≡ p
moved-none X p = ap (λ c. record { col = c; row = p.row; layer = p.layer }) (omega arith)
moved-none Y p = ap (λ r. record { col = p.col; row = r; layer = p.layer }) (omega arith)

moved-more : (axis : Axis) (k : ℕ) (p : Place) → moved axis 1 (moved axis k p) ≡ moved axis (suc k) p
moved-more X k p = ap (λ c. record { col = c; row = p.row; layer = p.layer }) (omega arith)
moved-more Y k p = ap (λ r. record { col = p.col; row = r; layer = p.layer }) (omega arith)

pub moved-in_line : (axis : Axis) (k : ℕ) (p : Place) → AreInLine p (moved axis k p)
moved-in_line X k p = inl (refl, refl)
moved-in_line Y k p = inr (inl (refl, refl))

pub above-in_line : (p : Place) → AreInLine p (above p)
above-in_line p = inr (inr (refl, refl))

moved-between : (axis : Axis) (k long : ℕ) (p : Place) → k ≤ long → IsBetween p (moved axis long p) (moved axis k p)
moved-between X k long p within = record { col = (omega arith, omega arith); row = (omega arith, omega arith); layer = (omega arith, omega arith) }
moved-between Y k long p within = record { col = (omega arith, omega arith); row = (omega arith, omega arith); layer = (omega arith, omega arith) }

end_place-edge_from : (s : Size) (axis : Axis) (v : ℕ) → end_place s (edge_from axis v) ≡ moved axis 1 (place_at s v)
end_place-edge_from s X v = end_place-to_next_col s v
end_place-edge_from s Y v = end_place-to_next_row s v

pub no_steps : (v k : ℕ) → v + 0 * k ≡ v
no_steps v k = omega arith

pub one_step_on : (v i k : ℕ) → v + i * k + k ≡ v + suc i * k
one_step_on v i k = omega arith

-- this many edges along an axis, one behind the other from a vertex on, are pieces of the grid
pub record IsLine (s : Size) (axis : Axis) (v long : ℕ) : Type 0 where
  pub each : (i : ℕ) → i < long → IsPiece s (edge_from axis (v + i * stride axis s))

-- where a line ends
pub place_on_line : (s : Size) (axis : Axis) (v k : ℕ) → IsLine s axis v k → place_at s (v + k * stride axis s) ≡ moved axis k (place_at s v)
place_on_line s axis v zero line = ap (place_at s) (no_steps v (stride axis s)) ∙ sym (moved-none axis (place_at s v))
place_on_line s axis v (suc k) line =
    let u = v + k * stride axis s in
    let before : place_at s u ≡ moved axis k (place_at s v) = place_on_line s axis v k (record { each = λ i below. line.each i (omega arith) }) in
    ap (place_at s) (sym (one_step_on v k (stride axis s)) ∙ sym (end_of-edge_from s axis u))
    ∙ place_at-end_of s (edge_from axis u) (line.each k (omega arith)) ∙ end_place-edge_from s axis u ∙ ap (moved axis 1) before ∙ moved-more axis k (place_at s v)

-- it is a vertex
pub vertex_on_line : (s : Size) (axis : Axis) (v k : ℕ) → IsVertex s v → IsLine s axis v k → IsVertex s (v + k * stride axis s)
vertex_on_line s axis v zero vertex line = subst (IsVertex s) (sym (no_steps v (stride axis s))) vertex
vertex_on_line s axis v (suc k) vertex line =
    let u = v + k * stride axis s in
    subst (IsVertex s) (end_of-edge_from s axis u ∙ one_step_on v k (stride axis s)) (end_of-vertex s (edge_from axis u) (line.each k (omega arith)))

-- the piece goes from a place between two others to a place between them
pub record GoesBetween (s : Size) (from to : Place) (piece : Piece) : Type 0 where
  pub of_grid : IsPiece s piece
  pub starts : IsBetween from to (place_at s (start_of piece))
  pub ends : IsBetween from to (end_place s piece)

-- each edge of a line goes between its ends
pub edge_on_line : (s : Size) (axis : Axis) (v long i : ℕ) → IsLine s axis v long → i < long → GoesBetween s (place_at s v) (moved axis long (place_at s v)) (edge_from axis (v + i * stride axis s))
edge_on_line s axis v long i line below =
    let u = v + i * stride axis s in
    let p = place_at s v in
    let at : place_at s u ≡ moved axis i p = place_on_line s axis v i (record { each = λ j earlier. line.each j (omega (arith, earlier, below)) }) in
    let near : place_at s (start_of (edge_from axis u)) ≡ moved axis i p = ap (place_at s) (start_of-edge_from axis u) ∙ at in
    let far : end_place s (edge_from axis u) ≡ moved axis (suc i) p = end_place-edge_from s axis u ∙ ap (moved axis 1) at ∙ moved-more axis i p in
    record {
      of_grid = line.each i below;
      starts = subst (IsBetween p (moved axis long p)) (sym near) (moved-between axis i long p (omega (arith, below)));
      ends = subst (IsBetween p (moved axis long p)) (sym far) (moved-between axis (suc i) long p (omega (arith, below)));
    }

-- the two places that an edge joins
edge_between : (s : Size) (axis : Axis) (p q : Place) (u : ℕ) → GoesBetween s p q (edge_from axis u) → IsBetween p q (place_at s u) × IsBetween p q (moved axis 1 (place_at s u))
edge_between s axis p q u goes =
    (subst (λ w. IsBetween p q (place_at s w)) (start_of-edge_from axis u) goes.starts, subst (IsBetween p q) (end_place-edge_from s axis u) goes.ends)

-- a vertex by its column, row and layer
vertex_by_place : (s : Size) (u col row layer : ℕ) → col_of s u ≡ col → row_of s u ≡ row → layer_of s u ≡ layer → u ≡ vertex_number s col row layer
vertex_by_place s u col row layer in_col in_row in_layer =
    sym (vertex_number-place s u) ∙ ap (λ c. vertex_number s c (row_of s u) (layer_of s u)) in_col
    ∙ ap (λ r. vertex_number s col r (layer_of s u)) in_row ∙ ap (vertex_number s col row) in_layer

number_across : (s : Size) (col row layer i : ℕ) → vertex_number s (col + i) row layer ≡ vertex_number s col row layer + i * 1
number_across s col row layer i = omega arith

number_up : (s : Size) (col row layer i : ℕ) → vertex_number s col (row + i) layer ≡ vertex_number s col row layer + i * cols s
number_up s col row layer i = omega arith

-- the edge along an axis this many steps from a vertex
abbrev pub IsOnLine : Size → Axis → ℕ → ℕ → Piece → Type 0
IsOnLine s axis v long q = (i : ℕ) × (i < long) × (q ≡ edge_from axis (v + i * stride axis s))

-- no other piece goes between two places in line along an axis
pub only_on_line : (s : Size) (axis : Axis) (v long : ℕ) (q : Piece) → GoesBetween s (place_at s v) (moved axis long (place_at s v)) q → IsOnLine s axis v long q
only_on_line s X v long =
    let p = place_at s v in
    by_kind (λ q. GoesBetween s p (moved X long p) q → IsOnLine s X v long q)
    (λ u goes.
    let two = edge_between s X p (moved X long p) u goes in
    let i = col_of s u - col_of s v in
    let col : col_of s u ≡ col_of s v + i = omega (arith, two.0.col.0) in
    let is : u ≡ v + i * 1 = vertex_by_place s u (col_of s v + i) (row_of s v) (layer_of s v) col (omega (arith, two.0.row.0, two.0.row.1)) (omega (arith, two.0.layer.0, two.0.layer.1))
    ∙ number_across s (col_of s v) (row_of s v) (layer_of s v) i ∙ ap (λ n. n + i * 1) (vertex_number-place s v) in
    (i, omega (arith, two.1.col.1), ap to_next_col is))
    (λ u goes. let two = edge_between s Y p (moved X long p) u goes in absurd (omega (arith, two.0.row.0, two.1.row.1)))
    (λ u goes. absurd (omega (arith, goes.starts.layer.0, goes.ends.layer.1)))
only_on_line s Y v long =
    let p = place_at s v in
    by_kind (λ q. GoesBetween s p (moved Y long p) q → IsOnLine s Y v long q)
    (λ u goes. let two = edge_between s X p (moved Y long p) u goes in absurd (omega (arith, two.0.col.0, two.1.col.1)))
    (λ u goes.
    let two = edge_between s Y p (moved Y long p) u goes in
    let i = row_of s u - row_of s v in
    let row : row_of s u ≡ row_of s v + i = omega (arith, two.0.row.0) in
    let is : u ≡ v + i * cols s = vertex_by_place s u (col_of s v) (row_of s v + i) (layer_of s v) (omega (arith, two.0.col.0, two.0.col.1)) row (omega (arith, two.0.layer.0, two.0.layer.1))
    ∙ number_up s (col_of s v) (row_of s v) (layer_of s v) i ∙ ap (λ n. n + i * cols s) (vertex_number-place s v) in
    (i, omega (arith, two.1.row.1), ap to_next_row is))
    (λ u goes. absurd (omega (arith, goes.starts.layer.0, goes.ends.layer.1)))

-- a via goes to the place above its start
pub via_place : (s : Size) (v : ℕ) → IsPiece s (to_next_layer v) → place_at s (end_of s (to_next_layer v)) ≡ above (place_at s v)
via_place s v piece = place_at-end_of s (to_next_layer v) piece

-- nor any other than the via between a place and the one above it
pub only_via : (s : Size) (v : ℕ) (q : Piece) → GoesBetween s (place_at s v) (above (place_at s v)) q → q ≡ to_next_layer v
only_via s v =
    let p = place_at s v in
    by_kind (λ q. GoesBetween s p (above p) q → q ≡ to_next_layer v)
    (λ u goes. let two = edge_between s X p (above p) u goes in absurd (omega (arith, two.0.col.0, two.1.col.1)))
    (λ u goes. let two = edge_between s Y p (above p) u goes in absurd (omega (arith, two.0.row.0, two.1.row.1)))
    (λ u goes.
    let starts = goes.starts in
    let ends = goes.ends in
    let same : u ≡ vertex_number s (col_of s v) (row_of s v) (layer_of s v) =
    vertex_by_place s u (col_of s v) (row_of s v) (layer_of s v) (omega (arith, starts.col.0, starts.col.1)) (omega (arith, starts.row.0, starts.row.1)) (omega (arith, starts.layer.0, ends.layer.1)) in
    ap to_next_layer (same ∙ vertex_number-place s v))

-- the via between them goes between them
pub via_between : (s : Size) (v : ℕ) → IsPiece s (to_next_layer v) → GoesBetween s (place_at s v) (above (place_at s v)) (to_next_layer v)
via_between s v piece = record {
  of_grid = piece;
  starts = record { col = (omega arith, omega arith); row = (omega arith, omega arith); layer = (omega arith, omega arith) };
  ends = record { col = (omega arith, omega arith); row = (omega arith, omega arith); layer = (omega arith, omega arith) };
}
