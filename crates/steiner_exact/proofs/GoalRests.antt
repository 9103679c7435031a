-- What is still to go to a goal, by a bound of what is still to go between tiles, rises slowly on the grid.
use Rattle.std.proofs.Common.{ℕ, ◌≡◌, ◌+◌, ◌-◌, ◌*◌, ◌^◌, ◌≤◌, List, min, refl, sym, ap, ⊎_elim, arith}
use Rattle.std.proofs.lemmas.Nat.{mul-le}
use Rattle.grid_base.specs.declared.piece.Piece.{Piece}
use Rattle.grid_base.specs.declared.piece.Piece.TheVariants.{Edge, Via}
use Rattle.grid_base.specs.declared.size.Size.{Size}
use Rattle.grid_base.specs.Numbers.{layer_of, IsPiece}
use Rattle.grid_graph.specs.declared.floors.Floors.{Floors}
use Rattle.grid_graph.specs.Flat.{tile_of, tile_edge_of, IsFlatOf, AreLeastOver}
use Rattle.grid_graph.specs.Floors.{AreFloors}
use Rattle.grid_graph.proofs.TileSteps.{edge_connects, via_goes, flat_tiles}
use Rattle.label_search.specs.Sets.{RisesSlowly}
use Rattle.steiner_exact.specs.FlatPieces.{edges_with}
use Rattle.steiner_exact.proofs.EdgeLists.{edges_with-lists}
use Rattle.steiner_exact.specs.GoalRests.{rest_to}

-- a step that stays on its layer
stays : (a b w v via k over : ℕ) → b ≤ a + over → over ≤ k → w ≡ v → min (b + w * via) (2 ^ 61) ≤ min (a + v * via) (2 ^ 61) + k
stays a b w v via k over less light same = let layers : w * via ≡ v * via = ap (λ n. n * via) same in omega (arith, less, light, layers)

-- a step that stays over its tile
climbs : (a b w v via k : ℕ) → b ≡ a → w ≤ v + 1 → via ≤ k → min (b + w * via) (2 ^ 61) ≤ min (a + v * via) (2 ^ 61) + k
climbs a b w v via k same near light =
    let layers : w * via ≤ v * via + via = omega (arith, mul-le w via (v + 1) via near (omega arith)) in omega (arith, same, layers, light)

pub goal_slow : (flat s : Size) (pieces : List (Piece × ℕ)) (floors : Floors) (over across : ℕ → ℕ) (layer : ℕ)
    → IsFlatOf flat s → AreLeastOver s pieces over → AreFloors floors pieces → RisesSlowly flat (edges_with flat over) across
    → RisesSlowly s pieces (rest_to s layer floors.via across)
goal_slow flat s pieces floors over across layer is least floored slow (Edge e) k a b weighs connects =
    let found = edge_connects flat s e.0 a b (flat_tiles flat s is) connects in
    let tile_edge = tile_edge_of s e.0 in
    let piece : IsPiece flat (Edge (record { 0 = tile_edge })) = ⊎_elim (λ goes. goes.0) (λ goes. goes.0) found.0 in
    let less = slow (Edge (record { 0 = tile_edge })) (over tile_edge) (tile_of s a) (tile_of s b)
    (edges_with-lists flat over tile_edge piece) found.0 in
    stays (across (tile_of s a)) (across (tile_of s b)) (layer_of s b - layer + (layer - layer_of s b))
    (layer_of s a - layer + (layer - layer_of s a)) floors.via k (over tile_edge) less (least.below e k weighs)
    (ap (λ l. l - layer + (layer - l)) found.1)
goal_slow flat s pieces floors over across layer is least floored slow (Via v) k a b weighs connects = ⊎_elim
    (λ goes. let found = via_goes s (Via v) v.0 a b refl goes in
    climbs (across (tile_of s a)) (across (tile_of s b)) (layer_of s b - layer + (layer - layer_of s b))
    (layer_of s a - layer + (layer - layer_of s a)) floors.via k (ap across found.0) (omega (arith, found.1))
    (floored (Via v) k weighs))
    (λ goes. let found = via_goes s (Via v) v.0 b a refl goes in
    climbs (across (tile_of s a)) (across (tile_of s b)) (layer_of s b - layer + (layer - layer_of s b))
    (layer_of s a - layer + (layer - layer_of s a)) floors.via k (ap across (sym found.0)) (omega (arith, found.1))
    (floored (Via v) k weighs))
    connects
