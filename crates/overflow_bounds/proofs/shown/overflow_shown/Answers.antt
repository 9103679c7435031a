use Rattle.std.proofs.Common.{ℕ, ◌<◌, ◌≤◌, None, slice_index, inr, sym, subst, arith}
use Rattle.std.specs.List.{AllZip}
use Rattle.grid_graph.specs.Grids.{edge_numbers}
use Rattle.dual_bound.specs.DesignBounds.{IsAtMostEachRoute}
use Rattle.overflow_bounds.specs.Shown.{IsShownByWires}
use Rattle.overflow_bounds.specs.Units.{AreLayerUnits}
use Rattle.overflow_bounds.proofs.Shows.{greater_shown, no_less, priced_inside, shown_with}
use Rattle.overflow_bounds.proofs.shown.overflow_shown.Goals as goal
use Rattle.overflow_bounds.proofs.shown.overflow_shown.Goals.{After-max}

-- what is answered is shown in one of the two ways
is_shown : (c : After-max) → IsShownByWires c.args.design.now c.args.prices.now c.max.result
is_shown c =
    let d = c.args.design.now in
    let prices = c.args.prices.now in
    let units = c.as_slice.result.now in
    let lows = c.as_slice-2.result.now in
    let are : AreLayerUnits d units = subst (AreLayerUnits d) (sym c.as_slice.ensures.value) c.in_ok-units.ensures in
    let low : AllZip (IsAtMostEachRoute d.grid prices None) d.nets lows = subst (AllZip (IsAtMostEachRoute d.grid prices None) d.nets) (sym c.as_slice-2.ensures.value) c.in_ok-lows.ensures in
    let total = c.total_of-total.result in
    let sums = c.total_of-total.ensures in
    let most = c.from-most.result in
    let some : 0 < most = omega (arith, c.if-most-eq0.false) in
    let each : (e : ℕ) → e < edge_numbers d.grid → slice_index prices e ≤ most = λ e inside. omega (arith, c.from-most.ensures, c.greatest_price.ensures.most e) in
    let whole = c.whole_price.result in
    let greatest = c.greatest_price.ensures.attained (omega (arith, some, c.from-most.ensures)) in
    let whole_some : 0 < whole = omega (arith, c.whole_price.ensures.prices greatest.0 (priced_inside d.grid prices greatest.0 c.requires.prices (omega (arith, greatest.1, some, c.from-most.ensures))), greatest.1, some, c.from-most.ensures) in
    let plain_is = shown_with d prices units lows most total c.shown_at-plain.result are low sums some each c.shown_at-plain.ensures in
    let whole_is = shown_with d prices units lows whole total c.shown_at-whole.result are low sums whole_some c.whole_price.ensures.prices c.shown_at-whole.ensures in
    subst (IsShownByWires d prices) (sym c.max.ensures) (greater_shown d prices c.shown_at-plain.result c.shown_at-whole.result plain_is whole_is)

pub returns-clause-shown : goal.returns-clause-shown
returns-clause-shown c = inr (is_shown (goal.at.returns-clause-shown c).After-max)

pub returns-clause-unavoidable : goal.returns-clause-unavoidable
returns-clause-unavoidable c = λ trees routing. no_less c.args.design.now c.args.prices.now c.max.result c.requires.prices (is_shown (goal.at.returns-clause-unavoidable c).After-max) trees routing
