-- Layers of vertices without a division.
use Rattle.std.proofs.Common.{ℕ, ◌+◌, ◌-◌, ◌*◌, ◌/◌, ◌≡◌, ◌≤◌, ◌<◌, ◌↔◌, ltb, ap, sym, inl, inr, ◌∙◌, arith}
use Rattle.std.specs.Prelude.{IsTrue}
use Rattle.std.proofs.lemmas.Bool.{cases_lt, ltb-true, lt-ltb}
use Rattle.std.proofs.Math.Nat.{div-div-eq-div-mul, div-eq_of_lt-le, div-mul-le_self, lt-mul-div-succ, mul-le-mul_left}
use Rattle.std.proofs.lemmas.Nat.{mul-le}
use Rattle.grid_base.specs.declared.via.Via.{Via as ViaNumber}
use Rattle.grid_base.specs.declared.piece.Piece.TheVariants.{Via}
use Rattle.grid_base.specs.declared.size.Size.{Size}
use Rattle.grid_base.specs.Numbers.{cols, rows, layers, vertices, layer_of, edge_start, IsPiece}
use Rattle.grid_base.proofs.Places.{place_at-inside}
use Rattle.grid_graph.specs.declared.grid.Grid.{Grid}
use Rattle.grid_graph.specs.declared.ground.Ground.{Ground}
use Rattle.grid_graph.specs.declared.ground.Ground.TheVariants.{Open, WithChoked}
use Rattle.grid_graph.specs.Capacities.{demand}
use Rattle.grid_graph.specs.Grids.{size_of, width_of_layer, spacing_of_layer, demand_on, Allows, edge_numbers}
use Rattle.edge_prices.specs.Demands.{layer_size}

-- the layer k holds the vertices from k times a layer's size on
pub layer_of-within : (s : Size) (v k : ℕ) → k * (cols s * rows s) ≤ v → v < (k + 1) * (cols s * rows s) → k ≡ layer_of s v
layer_of-within s v k from below = sym (div-div-eq-div-mul v (cols s) (rows s) ∙ div-eq_of_lt-le (cols s * rows s) from below)

-- of n layers of `size` vertices all but the last have a layer above
above : (v size n : ℕ) → v < size * n - size → v / size + 1 < n
above v size n below = elim (cases_lt (v / size + 1) n) [
  | inl is ↦ is
  | inr last ↦ absurd (omega (arith, mul-le-mul_left size last, div-mul-le_self v size))
]

below : (v size n : ℕ) → 0 < size → v / size + 1 < n → v < size * n - size
below v size n some next =
    let room : v / size + 2 ≤ n = omega arith in omega (arith, mul-le-mul_left size room, lt-mul-div-succ v some)

-- a via leads from each vertex that isn't in the last layer
pub below_last_layer : (s : Size) (v : ViaNumber) → (v.0 < vertices s - cols s * rows s) ↔ IsPiece s (Via v)
below_last_layer s v =
    let same : layer_of s v.0 ≡ v.0 / (cols s * rows s) = div-div-eq-div-mul v.0 (cols s) (rows s) in (
      (λ before.
          let inside = place_at-inside s v.0 (omega arith) in
          (omega arith, (inside.0, inside.1, omega (arith, same, above v.0 (cols s * rows s) (layers s) before)))),
      λ piece.
          let some : 0 < cols s * rows s = mul-le 1 1 (cols s) (rows s) s.within.has_col s.within.has_row in
          below v.0 (cols s * rows s) (layers s) some (omega (arith, same, piece.1.2)),
    )

via_piece : (g : Grid) (v : ViaNumber) (vias : ℕ) → vias ≡ vertices (size_of g) - layer_size g → IsTrue (ltb v.0 vias) ↔ IsPiece (size_of g) (Via v)
via_piece g v vias count = let law = below_last_layer (size_of g) v in (
  (λ test. law.0 (omega (arith, ltb-true _ _ test))),
  λ piece. lt-ltb _ _ (omega (arith, law.1 piece)),
)

-- the first edge of a layer is in it
pub first_of_layer : (s : Size) (layer e : ℕ) → e ≡ 2 * (layer * (cols s * rows s)) → layer ≡ layer_of s (edge_start e)
first_of_layer s layer e first =
    let some : 0 < cols s * rows s = mul-le 1 1 (cols s) (rows s) s.within.has_col s.within.has_row in
    let start : layer * (cols s * rows s) ≡ edge_start e = omega arith in
    layer_of-within s (edge_start e) layer (omega arith) (omega arith)

-- the layer of an edge number is one of the grid
pub layer-below : (g : Grid) (e : ℕ) → e < edge_numbers g → layer_of (size_of g) (edge_start e) < layers (size_of g)
layer-below g e number = let vertex : edge_start e < vertices (size_of g) = omega arith in (place_at-inside (size_of g) (edge_start e) vertex).2

-- edges of one layer have one demand
pub same_demand : (g : Grid) (width e f : ℕ) → layer_of (size_of g) (edge_start e) ≡ layer_of (size_of g) (edge_start f) → demand_on g width e ≡ demand_on g width f
same_demand g width e f same = ap (λ layer. demand width (width_of_layer g layer) (spacing_of_layer g layer)) same

-- the vias below the last layer are those of every ground
pub via_allowed : (g : Grid) (over : Ground) (v : ViaNumber) (vias : ℕ) → vias ≡ vertices (size_of g) - layer_size g → IsTrue (ltb v.0 vias) ↔ Allows g over (Via v)
via_allowed g Open v vias count = via_piece g v vias count
via_allowed g WithChoked v vias count = via_piece g v vias count
