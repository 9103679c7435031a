-- When a stated bound is higher than what was found at the certificate's prices.
use Rattle.std.specs.Prelude.{ℕ, ◌<◌, ◌⊎◌, Option, Some, None}
use Rattle.grid_graph.specs.declared.grid.Grid.{Grid}
use Rattle.dual_bound.specs.Bounds.{IsResource}
use Rattle.fractions.specs.declared.fraction.Fraction.{Fraction}
use Rattle.fractions.specs.Fractions.{IsAtMost}

-- there is an open edge or a budget
abbrev pub HasResource : Grid → Option ℕ → Type 0
HasResource g budget = (r : ℕ) × IsResource g budget r

-- a fraction is at most what was found; none is where nothing was
abbrev pub IsAtMostFound : Fraction → Option Fraction → Type 0
IsAtMostFound f None = ⊥
IsAtMostFound f (Some found) = IsAtMost f found

-- without a resource no bound may be stated; with one a bound has to be, and 0 or one that is at most what was found
abbrev pub IsTooHigh : Grid → Option ℕ → Option Fraction → Option Fraction → Type 0
IsTooHigh g budget None found = HasResource g budget
IsTooHigh g budget (Some stated) found = (¬ HasResource g budget) ⊎ ((0 < stated.num) × (¬ IsAtMostFound stated found))
