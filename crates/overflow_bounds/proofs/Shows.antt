-- What numbers that are at most what routes cost show.
use Rattle.std.proofs.Common.{◌≡◌, ℕ, ◌<◌, ◌≤◌, List, max, min, None, subst, ◌∙◌, ap, ⊎_elim, arith}
use Rattle.std.specs.Prelude.{slice_index}
use Rattle.std.specs.List.{AllZip, sum}
use Rattle.std.proofs.lemmas.Bool.{cases_lt}
use Rattle.std.proofs.lemmas.List.{get_or_past}
use Rattle.grid_base.specs.declared.piece.Piece.{Piece}
use Rattle.grid_graph.specs.declared.design.Design.{Design}
use Rattle.grid_graph.specs.declared.grid.Grid.{Grid}
use Rattle.grid_graph.specs.Grids.{edge_numbers}
use Rattle.edge_prices.specs.Weights.{AreEdgePrices}
use Rattle.tree_set.specs.Loads.{load}
use Rattle.tree_set.specs.Measures.{overflow}
use Rattle.tree_set.specs.Routings.{IsRouting}
use Rattle.dual_bound.specs.DesignBounds.{IsAtMostEachRoute}
use Rattle.dual_bound.specs.LeastOverflow.{least_overflow}
use Rattle.dual_bound.specs.WholeWires.{whole_cost}
use Rattle.dual_bound.proofs.Overfull.{whole_overflows}
use Rattle.overflow_bounds.specs.Shown.{IsShownByWires}
use Rattle.overflow_bounds.specs.Units.{AreLayerUnits, unit_at}
use Rattle.overflow_bounds.proofs.Units.{most_serves, units_serve}

-- what has a price is an edge of the grid
pub priced_inside : (g : Grid) (prices : List ℕ) (e : ℕ) → AreEdgePrices g prices → 0 < slice_index prices e → e < edge_numbers g
priced_inside g prices e are some = ⊎_elim
    (λ (inside : e < edge_numbers g). inside)
    (λ (past : edge_numbers g ≤ e).
    let none : slice_index prices e ≡ 0 = get_or_past prices e 0 (omega (arith, past, are.long)) in
    absurd (omega (arith, some, none)))
    (cases_lt e (edge_numbers g))

-- a greatest price shows so much, by the units that count at it
pub shown_with : (d : Design) (prices units lows : List ℕ) (most total least : ℕ) → AreLayerUnits d units → AllZip (IsAtMostEachRoute d.grid prices None) d.nets lows → total ≡ sum lows
    → 0 < most → ((e : ℕ) → e < edge_numbers d.grid → slice_index prices e ≤ most)
    → least ≡ min (least_overflow total (whole_cost d.grid prices (unit_at d.grid prices units most)) most) 18446744073709551615 → IsShownByWires d prices least
shown_with d prices units lows most total least are low sums some at_most value = record {
  lows = lows;
  low = low;
  units = unit_at d.grid prices units most;
  are_units = units_serve d prices units most are;
  most = most;
  greatest = most_serves d.grid prices units most some at_most;
  value = value ∙ ap (λ n. min (least_overflow n (whole_cost d.grid prices (unit_at d.grid prices units most)) most) 18446744073709551615) sums;
}

-- the greater of two numbers that are shown is shown
pub greater_shown : (d : Design) (prices : List ℕ) (one other : ℕ) → IsShownByWires d prices one → IsShownByWires d prices other → IsShownByWires d prices (max one other)
greater_shown d prices one other is_one is_other = ⊎_elim
    (λ (less : one < other). let same : other ≡ max one other = omega (arith, less) in subst (IsShownByWires d prices) same is_other)
    (λ (more : other ≤ one). let same : one ≡ max one other = omega (arith, more) in subst (IsShownByWires d prices) same is_one)
    (cases_lt one other)

-- no routing has less overflow than is shown
pub no_less : (d : Design) (prices : List ℕ) (least : ℕ) → AreEdgePrices d.grid prices → IsShownByWires d prices least → (trees : List (List Piece)) → IsRouting d.grid d.nets trees
    → least ≤ overflow d.grid (load d.grid d.nets trees)
no_less d prices least are is trees routing =
    let shown = whole_overflows d prices is.units is.most is.lows trees are is.are_units is.greatest is.low routing in
    omega (arith, is.value, shown)
