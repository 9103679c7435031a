-- Targets by their distances.
use Rattle.std.specs.Prelude.{ℕ, List, Some, ◌≡◌, ◌<◌, ◌≤◌, slice_get}
use Rattle.net_search.specs.Targets.{steps_to}
use Rattle.net_search.specs.declared.target.Target.{Target}

-- none behind is nearer than any of the first ones, as many as this
abbrev pub AreNearestFirst : List Target → ℕ → Type 0
AreNearestFirst targets count =
    (i j : ℕ) (near far : Target) → i < count → i ≤ j → slice_get targets i ≡ Some near → slice_get targets j ≡ Some far → steps_to near ≤ steps_to far

-- none from a place on is nearer than the one at this place
abbrev pub IsNearestFrom : List Target → ℕ → ℕ → Type 0
IsNearestFrom targets from at =
    (j : ℕ) (near far : Target) → from ≤ j → slice_get targets at ≡ Some near → slice_get targets j ≡ Some far → steps_to near ≤ steps_to far
