-- The bound of a design at a price list: what its nets cost at least, by what all capacities cost.
use Rattle.std.specs.Prelude.{ℕ, ◌≡◌, ◌<◌, ◌≤◌, List, Option, Some, None}
use Rattle.std.specs.List.{AllZip, sum}
use Rattle.grid_base.specs.declared.piece.Piece.{Piece}
use Rattle.grid_graph.specs.declared.design.Design.{Design}
use Rattle.grid_graph.specs.declared.grid.Grid.{Grid}
use Rattle.grid_graph.specs.declared.ground.Ground.{Ground}
use Rattle.grid_graph.specs.declared.net_spec.NetSpec.{NetSpec}
use Rattle.grid_graph.specs.Grids.{size_of}
use Rattle.grid_graph.specs.Grounds.{IsGround}
use Rattle.lower_bound.specs.Costs.{costed}
use Rattle.lower_bound.specs.NetBounds.{IsNetBound}
use Rattle.edge_prices.specs.declared.budget.Budget.{Budget}
use Rattle.fractions.specs.declared.fraction.Fraction.{Fraction}
use Rattle.edge_prices.specs.Budgets.{price_per_piece}
use Rattle.fractions.specs.Fractions.{IsRatio}
use Rattle.tree_set.specs.Routings.{IsRoute}
use Rattle.dual_bound.specs.Prices.{capacity_cost, load_cost}

-- a number is at most what every route of the net costs
abbrev pub IsAtMostEachRoute : Grid → List ℕ → Option Budget → NetSpec → ℕ → Type 0
IsAtMostEachRoute g prices budget n low = (set : List Piece) → IsRoute g n set → low ≤ load_cost g prices budget n.width set

-- the net bound of a net, on its ground
pub record IsBoundOfNet (g : Grid) (prices : List ℕ) (budget : Option Budget) (n : NetSpec) (bound : ℕ) : Type 0 where
  pub over : Ground
  pub is_ground : IsGround g n.terminals over
  pub is_bound : IsNetBound (size_of g) (costed g n.width over prices (price_per_piece budget)) n.terminals bound

-- the sum of the net bounds of some nets
pub record IsSumOfBounds (g : Grid) (prices : List ℕ) (budget : Option Budget) (nets : List NetSpec) (total : ℕ) : Type 0 where
  pub bounds : List ℕ
  pub each : AllZip (IsBoundOfNet g prices budget) nets bounds
  pub sums : total ≡ sum bounds

-- the bound of a design: the sum of its net bounds by what all capacities cost, in lowest terms as every fraction is. It
-- exists where the capacities cost something.
pub record IsDesignBound (d : Design) (prices : List ℕ) (budget : Option Budget) (f : Fraction) : Type 0 where
  pub exists : 0 < capacity_cost d.grid prices budget
  pub total : ℕ
  pub is_total : IsSumOfBounds d.grid prices budget d.nets total
  pub ratio : IsRatio total (capacity_cost d.grid prices budget) f

-- the bound of a design, or none where it doesn't exist
abbrev pub IsBoundOrNone : Design → List ℕ → Option Budget → Option Fraction → Type 0
IsBoundOrNone d prices budget None = capacity_cost d.grid prices budget ≡ 0
IsBoundOrNone d prices budget (Some f) = IsDesignBound d prices budget f
