-- Raised weights that are led by what tile edges cost at least.
use Rattle.std.proofs.Common.{◌≡◌, ℕ, ◌==◌, ◌+◌, ◌*◌, ◌%◌, ◌<◌, ◌≤◌, List, cond, min, refl, ap, arith}
use Rattle.std.proofs.Math.Nat.{mod-lt}
use Rattle.grid_base.specs.declared.axis.Axis.{Axis}
use Rattle.grid_base.specs.declared.axis.Axis.TheVariants.{X, Y}
use Rattle.grid_base.specs.declared.piece.Piece.{Piece}
use Rattle.grid_base.specs.declared.piece.Piece.TheVariants.{Edge, Via}
use Rattle.grid_base.specs.declared.size.Size.{Size}
use Rattle.grid_base.specs.Numbers.{edge_axis}
use Rattle.grid_graph.specs.declared.floors.Floors.{Floors}
use Rattle.grid_graph.specs.Flat.{tiles, tile_edge_of, AreLeastOver}
use Rattle.grid_graph.specs.Floors.{floor_along, AreFloors, AreTileFloors, AreWithin}
use Rattle.grid_graph.specs.Limits.{max_weight}
use Rattle.grid_graph.specs.TilePieces.{AreLeastBetweenTiles}
use Rattle.grid_graph.proofs.TileSteps.{some_tiles, tile_edge-number}
use Rattle.lower_bound.specs.LedWeights.{led_over, led_floors}
use Rattle.lower_bound.specs.Raised.{raised}
use Rattle.lower_bound.specs.TileCosts.{costs_between, cost_over}
use Rattle.lower_bound.proofs.CostLists.{cost_is}
use Rattle.lower_bound.proofs.Mapped.{raised_from}

-- no raised edge weighs less than its tile edge
pub led_under : (s : Size) (pieces : List (Piece × ℕ)) (costs : List ℕ) (extra : ℕ) → AreLeastBetweenTiles s pieces (costs_between costs) → AreLeastOver s (raised pieces extra) (led_over costs extra)
led_under s pieces costs extra between = record {
  below = λ e k weighs.
      let old = raised_from pieces extra (Edge e) k weighs in
      let at = between.below e old.before old.weighs in
      let is = cost_is costs (tile_edge_of s e.0) at.0 at.1 in
      omega (arith, old.sum, at.2, is.2);
  within = λ e. omega arith;
}

along : (floors : Floors) (extra : ℕ) (axis : Axis) → (floor_along (led_floors floors extra) axis ≤ floor_along floors axis + extra) × (floor_along (led_floors floors extra) axis ≤ max_weight)
along floors extra X = (omega arith, omega arith)
along floors extra Y = (omega arith, omega arith)

pub led_tile_floors : (flat s : Size) (costs : List ℕ) (floors : Floors) (extra : ℕ) → tiles flat ≡ tiles s → AreTileFloors flat floors (cost_over costs) → AreTileFloors s (led_floors floors extra) (led_over costs extra)
led_tile_floors flat s costs floors extra same are e low =
    let under = along floors extra (edge_axis e) in
    omega (arith, under.0, under.1, are e (omega (arith, low, same)))

pub led_floors_below : (s : Size) (pieces : List (Piece × ℕ)) (costs : List ℕ) (floors : Floors) (extra : ℕ) → AreLeastOver s (raised pieces extra) (led_over costs extra) → AreTileFloors s (led_floors floors extra) (led_over costs extra)
    → AreFloors (led_floors floors extra) (raised pieces extra)
led_floors_below s pieces costs floors extra under tile_floors (Edge e) k weighs =
    let n = tile_edge_of s e.0 in
    let same : e.0 % 2 ≡ n % 2 = omega (arith, tile_edge-number s e.0) in
    let low : n < 2 * tiles s = mod-lt e.0 (omega (arith, some_tiles s)) in
    let axis : edge_axis e.0 ≡ edge_axis n = ap (λ k. cond (k == 0) X Y) same in
    omega (arith, under.below e k weighs, tile_floors n low, ap (floor_along (led_floors floors extra)) axis)
led_floors_below s pieces costs floors extra under tile_floors (Via v) k weighs = let old = raised_from pieces extra (Via v) k weighs in omega (arith, old.sum)

pub led_within : (floors : Floors) (extra : ℕ) → extra ≤ max_weight → AreWithin (led_floors floors extra)
led_within floors extra small = record { x = omega arith; y = omega arith; vias = small }

-- floors that were computed
pub same_floors : (floors : Floors) (extra via x y : ℕ) → via ≡ extra → x ≡ min (floors.along_x + extra) max_weight → y ≡ min (floors.along_y + extra) max_weight
    → led_floors floors extra ≡ record { along_x = x; along_y = y; via = via }
same_floors floors extra via x y is_via is_x is_y = rw (is_via, is_x, is_y) refl
