-- Costs between tiles: of each tile edge the least of the edges over it.
use Rattle.std.specs.Prelude.{ℕ, ◌+◌, ◌*◌, ◌≡◌, ◌<◌, ◌≤◌, List, length, map, min, ltb, slice_index}
use Rattle.std.specs.List.{filter, range_with_len}
use Rattle.grid_base.specs.declared.piece.Piece.{Piece}
use Rattle.grid_base.specs.declared.piece.Piece.TheVariants.{Edge}
use Rattle.grid_base.specs.declared.size.Size.{Size}
use Rattle.grid_base.specs.Numbers.{layers, edge_axis, IsPiece}
use Rattle.grid_graph.specs.declared.floors.Floors.{Floors}
use Rattle.grid_graph.specs.Flat.{tiles}
use Rattle.grid_graph.specs.Floors.{floor_along, AreWithin}
use Rattle.grid_graph.specs.Limits.{max_weight}
use Rattle.grid_graph.specs.Weighed.{Weighs}

-- a number above all costs, which stands for that of a tile edge over which nothing may be used
abbrev pub no_cost : ℕ
no_cost = max_weight + 1

-- the edge on a layer over a tile edge
abbrev pub edge_on : Size → ℕ → ℕ → Piece
edge_on s e layer = Edge (record { 0 = layer * (2 * tiles s) + e })

-- the least weight of the listed edges over a tile edge, on so many layers from the lowest one on
pub record IsLeastOn (s : Size) (pieces : List (Piece × ℕ)) (e count least : ℕ) : Type 0 where
  pub below : (layer weight : ℕ) → layer < count → Weighs pieces (edge_on s e layer) weight → least ≤ weight
  pub attained : least < no_cost → (layer : ℕ) × (layer < count) × Weighs pieces (edge_on s e layer) least
  pub within : least ≤ no_cost

-- one such number for each tile edge
pub record AreLeastOnAll (s : Size) (pieces : List (Piece × ℕ)) (costs : List ℕ) : Type 0 where
  pub long : length costs ≡ 2 * tiles s
  pub each : (e : ℕ) → e < 2 * tiles s → IsLeastOn s pieces e (layers s) (slice_index costs e)

-- the tile edges that have a cost, each with it
abbrev pub costs_between : List ℕ → List (Piece × ℕ)
costs_between costs =
    map (λ e. (Edge (record { 0 = e }), slice_index costs e))
    (filter (λ e. ltb (slice_index costs e) no_cost) (range_with_len 0 (length costs)))

-- what a tile edge costs at least
abbrev pub cost_over : List ℕ → ℕ → ℕ
cost_over costs e = min (slice_index costs e) max_weight

-- costs of the edges of a size, none of which is below the floor of its axis
pub record AreTileCosts (s : Size) (costs : List ℕ) (floors : Floors) : Type 0 where
  pub long : length costs ≡ 2 * tiles s
  pub inside : (e : ℕ) → e < length costs → slice_index costs e < no_cost → IsPiece s (Edge (record { 0 = e }))
  pub floored : (e : ℕ) → e < length costs → floor_along floors (edge_axis e) ≤ slice_index costs e
  pub within : AreWithin floors
