use Rattle.std.proofs.Common.{◌≤◌, ◌*◌, ◌+◌, ap, ◌∙◌, subst, arith}
use Rattle.std.proofs.lemmas.Nat.{mul-le}
use Rattle.grid_base.specs.declared.axis.Axis.TheVariants.{X, Y}
use Rattle.grid_graph.specs.declared.floors.Floors.{Floors}
use Rattle.grid_graph.specs.Floors.{AreTileFloors}
use Rattle.grid_graph.specs.Grids.{size_of, edge_numbers}
use Rattle.grid_graph.specs.Limits.{max_demand}
use Rattle.edge_prices.specs.Limits.{max_price}
use Rattle.edge_prices.specs.TilePrices.{least_weight_over}
use Rattle.edge_prices.specs.Weights.{wirelength_price}
use Rattle.edge_prices.proofs.WeightFloors.{AreFloorsAt, floors-hold, floors-within, tile-floors}
use Rattle.edge_prices.proofs.weighing.WeighingFlooredWeights.floors.Goals as goal

pub open_weight-requires : goal.open_weight-requires
open_weight-requires c =
    omega (arith, mul-le c.from.result c.from-demand.result max_price max_demand (omega (arith, c.from.ensures, c.args.self.now.low.within X)) (omega (arith, c.from-demand.ensures, c.args.self.now.used.within)))

pub open_weight-requires-2 : goal.open_weight-requires-2
open_weight-requires-2 c =
    omega (arith, mul-le c.from-2.result c.from-demand.result max_price max_demand (omega (arith, c.from-2.ensures, c.args.self.now.low.within Y)) (omega (arith, c.from-demand.ensures, c.args.self.now.used.within)))

-- the demand of a piece is small
small_demand : (c : goal.After-open_weight-3) → c.from-demand.result ≤ max_demand
small_demand c = omega (arith, c.from-demand.ensures, c.args.self.now.used.within)

-- what the floors are
floors_at : (c : goal.After-open_weight-3) →
    AreFloorsAt (record { along_x = c.open_weight.result; along_y = c.open_weight-2.result; via = c.open_weight-3.result }) c.args.self.now.least c.from-demand.result
    (wirelength_price c.args.self.now.net.grid.now c.args.self.now.net.prices.now)
floors_at c =
    let wire = wirelength_price c.args.self.now.net.grid.now c.args.self.now.net.prices.now in
    record {
      x = c.open_weight.ensures.value ∙ ap (λ n. 4 * (n * c.from-demand.result + wire) + 1) c.from.ensures;
      y = c.open_weight-2.ensures.value ∙ ap (λ n. 4 * (n * c.from-demand.result + wire) + 1) c.from-2.ensures;
      via = c.open_weight-3.ensures.value;
    }

pub returns-clause-below : goal.returns-clause-below
returns-clause-below c =
    let w = c.args.self.now in
    let net = w.net in
    floors-hold net.grid.now net.ground net.width net.prices.now w.least _ c.from-demand.result w.low
    (λ e number. omega (arith, c.from-demand.ensures, w.used.below e number))
    (small_demand c) (net.known.listed.within (edge_numbers net.grid.now)) (floors_at c)

pub returns-clause-tiles : goal.returns-clause-tiles
returns-clause-tiles c =
    let w = c.args.self.now in
    let net = w.net in
    let floors : Floors = record { along_x = c.open_weight.result; along_y = c.open_weight-2.result; via = c.open_weight-3.result } in
    subst (λ n. AreTileFloors (size_of net.grid.now) floors (least_weight_over net.grid.now net.prices.now n)) c.from-demand.ensures
    (tile-floors net.grid.now net.prices.now w.least floors c.from-demand.result w.low (small_demand c) (net.known.listed.within (edge_numbers net.grid.now)) (floors_at c))

pub returns-clause-limits : goal.returns-clause-limits
returns-clause-limits c =
    let w = c.args.self.now in
    let grid = w.net.grid.now in
    floors-within _ w.least c.from-demand.result (wirelength_price grid w.net.prices.now) (w.low.within X) (w.low.within Y)
    (small_demand c) (w.net.known.listed.within (edge_numbers grid)) (floors_at c)
