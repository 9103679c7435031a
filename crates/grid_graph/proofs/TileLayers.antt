-- The edges over a tile edge, one on each layer.
use Rattle.std.proofs.Common.{ℕ, ◌≡◌, ◌+◌, ◌*◌, ◌/◌, ◌<◌, ◌≤◌, List, sym, ap, subst, ◌∙◌, arith}
use Rattle.std.proofs.Math.Nat.{mod-lt}
use Rattle.std.proofs.lemmas.Nat.{div_below, mod-mul-add}
use Rattle.grid_base.specs.declared.edge.Edge.{Edge as EdgeNumber}
use Rattle.grid_base.specs.declared.piece.Piece.{Piece}
use Rattle.grid_base.specs.declared.piece.Piece.TheVariants.{Edge}
use Rattle.grid_base.specs.declared.size.Size.{Size}
use Rattle.grid_base.specs.Numbers.{layers, vertices, IsPiece}
use Rattle.grid_graph.specs.Flat.{tiles, tile_edge_of}
use Rattle.grid_graph.specs.TilePieces.{tile_edge, AreLeastBetweenTiles}
use Rattle.grid_graph.specs.Weighed.{Weighs, WeighsOnlyPieces}
use Rattle.grid_graph.proofs.TileSteps.{some_tiles, tile_edge-number}

-- the edge on a layer over a tile edge
abbrev edge_on : Size → ℕ → ℕ → Piece
edge_on s e layer = Edge (record { 0 = layer * (2 * tiles s) + e })

-- an edge is the one on its layer over its tile edge
pub record IsOnLayer (s : Size) (e : EdgeNumber) : Type 0 where
  pub layer : ℕ
  pub below : layer < layers s
  pub tile : tile_edge_of s e.0 < 2 * tiles s
  pub is : edge_on s (tile_edge_of s e.0) layer ≡ Edge e

pub on_layer : (s : Size) (e : EdgeNumber) → IsPiece s (Edge e) → IsOnLayer s e
on_layer s e piece =
    let some : 0 < 2 * tiles s = omega (arith, some_tiles s) in
    let start : e.0 / 2 < vertices s = piece.0 in
    record {
      layer = e.0 / (2 * tiles s);
      below = div_below e.0 (2 * tiles s) (layers s) some (omega (arith, start));
      tile = mod-lt e.0 some;
      is = ap (λ n. Edge (record { 0 = n })) (tile_edge-number s e.0);
    }

-- the edge on each layer over a tile edge has it below
pub over_tile_edge : (s : Size) (e layer : ℕ) → e < 2 * tiles s → tile_edge s (record { 0 = layer * (2 * tiles s) + e }) ≡ Edge (record { 0 = e })
over_tile_edge s e layer below = ap (λ n. Edge (record { 0 = n })) (mod-mul-add layer (2 * tiles s) e below)

-- least weights between tiles, found from layer to layer
pub least_over_layers : (s : Size) (pieces across : List (Piece × ℕ)) → WeighsOnlyPieces s pieces →
    ((e layer weight : ℕ) → e < 2 * tiles s → layer < layers s → Weighs pieces (edge_on s e layer) weight → (least : ℕ) × Weighs across (Edge (record { 0 = e })) least × (least ≤ weight)) →
    ((p : Piece) (least : ℕ) → Weighs across p least → (e : ℕ) × (layer : ℕ) × (e < 2 * tiles s) × (p ≡ Edge (record { 0 = e })) × Weighs pieces (edge_on s e layer) least) →
    AreLeastBetweenTiles s pieces across
least_over_layers s pieces across only below attained = record {
  below = λ e weight weighs.
      let on = on_layer s e (only (Edge e) (weight, weighs)) in
      below (tile_edge_of s e.0) on.layer weight on.tile on.below (subst (λ p. Weighs pieces p weight) (sym on.is) weighs);
  attained = λ p least weighs.
      let found = attained p least weighs in
      let e = found.0 in
      let layer = found.1 in
      (record { 0 = layer * (2 * tiles s) + e }, found.4, found.3 ∙ sym (over_tile_edge s e layer found.2));
}
