-- What a ground allows is a piece of the grid.
use Rattle.std.proofs.Common.{◌≡◌, ◌≢◌, ℕ, zero, suc, ◌<◌, ◌⊎◌, Bool, true, false, cond, ltb, refl, inl, inr, arith}
use Rattle.std.proofs.lemmas.Bool.{ltb-true, and_parts}
use Rattle.grid_base.specs.declared.axis.Axis.{Axis}
use Rattle.grid_base.specs.declared.axis.Axis.TheVariants.{X, Y}
use Rattle.grid_base.specs.declared.edge.Edge.{Edge as EdgeNumber}
use Rattle.grid_base.specs.declared.piece.Piece.{Piece}
use Rattle.grid_base.specs.declared.piece.Piece.TheVariants.{Edge, Via}
use Rattle.grid_base.specs.declared.size.Size.{Size}
use Rattle.grid_base.specs.Numbers.{edge_start, edge_axis, next_along, place_at, IsVertex, IsInside, IsPiece}
use Rattle.grid_base.proofs.Places.{place_at-inside}
use Rattle.grid_graph.specs.declared.grid.Grid.{Grid}
use Rattle.grid_graph.specs.declared.ground.Ground.{Ground}
use Rattle.grid_graph.specs.declared.ground.Ground.TheVariants.{Open, WithChoked}
use Rattle.grid_graph.specs.declared.kind.Kind.TheVariants as kinds
use Rattle.grid_graph.specs.Capacities.{has_next, is_edge}
use Rattle.grid_graph.specs.Grids.{size_of, Allows, capacity, first_capacity, kind}

next_inside : (s : Size) (axis : Axis) (v : ℕ) → IsVertex s v → has_next s axis v ≡ true → IsInside s (next_along axis (place_at s v))
next_inside s X v vertex room = let inside = place_at-inside s v vertex in (ltb-true _ _ room, inside.1, inside.2)
next_inside s Y v vertex room = let inside = place_at-inside s v vertex in (inside.0, ltb-true _ _ room, inside.2)

-- a number that belongs to an edge is one of a piece
pub is_edge-IsPiece : (s : Size) (e : EdgeNumber) → is_edge s e.0 ≡ true → IsPiece s (Edge e)
is_edge-IsPiece s e is =
    let parts = and_parts _ _ is in
    let vertex = ltb-true _ _ parts.0 in (vertex, next_inside s (edge_axis e.0) (edge_start e.0) vertex parts.1)

true_by : (b : Bool) (n : ℕ) → (b ≡ false → n ≡ 0) → 0 < n → b ≡ true
true_by true n none positive = refl
true_by false n none positive = absurd (omega (arith, none refl, positive))

-- what is no wall has a capacity, of its own or of its layer
not_wall : (own first : ℕ) → cond (ltb 0 own) kinds.Open (cond (ltb 0 first) kinds.Choked kinds.Wall) ≢ kinds.Wall → (0 < own) ⊎ (0 < first)
not_wall (suc own) first other = inl (omega arith)
not_wall zero (suc first) other = inr (omega arith)
not_wall zero zero other = absurd (other refl)

not_wall-IsPiece : (g : Grid) (e : EdgeNumber) → kind g e.0 ≢ kinds.Wall → IsPiece (size_of g) (Edge e)
not_wall-IsPiece g e other = is_edge-IsPiece (size_of g) e (elim (not_wall (capacity g e.0) (first_capacity g e.0) other) [
  | inl own ↦ true_by _ (capacity g e.0) (g.table.no_edge e.0) own
  | inr first ↦ true_by _ (first_capacity g e.0) (λ none. rw none refl) first
])

pub Allows-IsPiece : (g : Grid) (over : Ground) (p : Piece) → Allows g over p → IsPiece (size_of g) p
Allows-IsPiece g Open (Edge e) is = not_wall-IsPiece g e (λ wall. cc)
Allows-IsPiece g WithChoked (Edge e) other = not_wall-IsPiece g e other
Allows-IsPiece g Open (Via v) piece = piece
Allows-IsPiece g WithChoked (Via v) piece = piece
