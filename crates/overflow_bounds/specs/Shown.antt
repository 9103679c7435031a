-- How much overflow a price list shows of whole wires.
use Rattle.std.specs.Prelude.{ℕ, ◌≡◌, ◌-◌, ◌^◌, ◌⊎◌, List, None, min}
use Rattle.std.specs.List.{AllZip, sum}
use Rattle.grid_graph.specs.declared.design.Design.{Design}
use Rattle.dual_bound.specs.DesignBounds.{IsAtMostEachRoute}
use Rattle.dual_bound.specs.LeastOverflow.{least_overflow}
use Rattle.dual_bound.specs.WholeWires.{AreUnits, IsMostOfUnits, whole_cost}

-- numbers that are at most what the nets' routes cost show so much overflow, where nets use these units of the edges
pub record IsShownByWires (d : Design) (prices : List ℕ) (least : ℕ) : Type 0 where
  pub lows : List ℕ
  pub low : AllZip (IsAtMostEachRoute d.grid prices None) d.nets lows
  pub units : ℕ → ℕ
  pub are_units : AreUnits d units
  pub most : ℕ
  pub greatest : IsMostOfUnits d.grid prices units most
  pub value : least ≡ min (least_overflow (sum lows) (whole_cost d.grid prices units) most) (2 ^ 64 - 1)

-- or none is shown
abbrev pub IsNoneOrShownByWires : Design → List ℕ → ℕ → Type 0
IsNoneOrShownByWires d prices least = (least ≡ 0) ⊎ IsShownByWires d prices least
