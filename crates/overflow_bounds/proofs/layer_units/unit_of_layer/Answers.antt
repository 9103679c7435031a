use Rattle.std.proofs.Common.{◌≡◌, ◌%◌, ◌*◌, ◌<◌, length, slice_get, sym, ◌∙◌, ap, ⊎_elim, arith}
use Rattle.std.proofs.lemmas.Bool.{cases_lt}
use Rattle.std.proofs.lemmas.Option.{same_Some}
use Rattle.grid_base.specs.declared.edge.Edge.{Edge as EdgeNumber}
use Rattle.grid_base.specs.Lists.{At}
use Rattle.grid_base.proofs.Lists.{At-from_member}
use Rattle.grid_base.specs.Numbers.{cols, rows, layer_of, edge_start}
use Rattle.grid_graph.specs.declared.net_spec.NetSpec.{NetSpec}
use Rattle.grid_graph.specs.Grids.{demand_on, size_of}
use Rattle.edge_prices.proofs.Layers.{first_of_layer, same_demand}
use Rattle.dual_bound.proofs.NetsOf.{net_stands, net_width}
use Rattle.overflow_bounds.proofs.Units.{divides_through, first_edge}
use Rattle.overflow_bounds.proofs.layer_units.unit_of_layer.Goals as goal
use Rattle.overflow_bounds.proofs.layer_units.unit_of_layer.Goals.{After-net-item, After-along-edge}

-- how many vertices a layer has
per_layer : (c : After-along-edge) → c.cols.result * c.rows.result ≡ cols (size_of c.args.design.now.grid) * rows (size_of c.args.design.now.grid)
per_layer c = let s = c.size-size.ensures in let w = c.cols.ensures in let h = c.rows.ensures in cc

-- the net that was read
stands : (c : After-net-item) → At c.args.design.now.nets c.loop-net.net-index c.net-item.result
stands c = net_stands c.args.design.now.nets c.list-net-items.result.now c.loop-net.net-index c.net-item.result c.list-net-items.ensures.items
    (omega (arith, c.loop-net-test.true, ap length c.list-net-items.ensures.items)) c.net-item.is

pub demand-requires-clause-edge : goal.demand-requires-clause-edge
demand-requires-clause-edge c =
    first_edge (size_of c.args.design.now.grid) c.args.layer c.along-edge.result.0 (c.cols.result * c.rows.result) (per_layer (goal.at.demand-requires-clause-edge c).After-along-edge)
    (ap (λ (x : EdgeNumber). x.0) c.along-edge.ensures) c.requires

pub demand-requires-clause-width : goal.demand-requires-clause-width
demand-requires-clause-width c = net_width c.args.design.now c.loop-net.net-index c.net-item.result (stands c)

pub loop-net-preserved : goal.loop-net-preserved
loop-net-preserved c =
    let d = c.args.design.now in
    let e = c.along-edge.result.0 in
    let here = stands (goal.at.loop-net-preserved c).After-net-item in
    record {
      some = λ more. c.common_unit-unit.ensures.positive;
      small = omega (arith, c.common_unit-unit.ensures.small, c.demand.ensures.limit);
      divides = λ k n below at. ⊎_elim
          (λ (earlier : k < c.loop-net.net-index). divides_through (demand_on d.grid n.width e) c.loop-net.unit c.common_unit-unit.result (c.loop-net.invariant.divides k n earlier at) c.common_unit-unit.ensures.other)
          (λ last.
          let same : k ≡ c.loop-net.net-index = omega (arith, below, last) in
          let net : n ≡ c.net-item.result = same_Some n c.net-item.result (sym at ∙ ap (slice_get d.nets) same ∙ here) in
          ap (λ (m : NetSpec). demand_on d.grid m.width e % c.common_unit-unit.result) net
          ∙ ap (λ x. x % c.common_unit-unit.result) (sym c.demand.ensures.value) ∙ c.common_unit-unit.ensures.one)
          (cases_lt k c.loop-net.net-index);
    }

pub returns-clause-divides : goal.returns-clause-divides
returns-clause-divides c = λ e n inside on listed.
    let d = c.args.design.now in
    let s = size_of d.grid in
    let place = At-from_member d.nets n listed in
    let edge = c.along-edge.result.0 in
    let first : c.args.layer ≡ layer_of s (edge_start edge) =
    first_of_layer s c.args.layer edge (ap (λ (x : EdgeNumber). x.0) c.along-edge.ensures ∙ ap (λ k. 2 * (c.args.layer * k)) (per_layer (goal.at.returns-clause-divides c).After-along-edge)) in
    let alike : demand_on d.grid n.width e ≡ demand_on d.grid n.width edge = sym (same_demand d.grid n.width edge e (sym first ∙ sym on)) in
    let behind : place.0 < c.loop-net.net-index = omega (arith, place.1, c.loop-net-test.false, ap length c.list-net-items.ensures.items) in
    let divided = c.loop-net.invariant.divides place.0 n behind place.2 in
    let unit : c.max.result ≡ c.loop-net.unit = omega (arith, c.max.ensures, c.loop-net.invariant.some (omega (arith, behind))) in
    ap (λ x. x % c.max.result) alike ∙ ap (λ u. demand_on d.grid n.width edge % u) unit ∙ divided
