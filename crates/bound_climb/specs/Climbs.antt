-- Climbs: turn after turn all nets are routed at the prices of the loads so far, and their loads come to these. The price lists
-- that come up are candidates, of which the one with the greatest bound is answered. A turn is a phase of min-max resource
-- sharing as Müller, Radke and Vygen have it (2011), but for one list of loads that all nets see.
use Rattle.std.specs.Prelude.{ℕ, zero, suc, ◌+◌, ◌≡◌, ◌<◌, ◌≤◌, ◌^◌, List, length, map, take, slice_index, Option, Some, None}
use Rattle.std.specs.List.{AllZip, range_with_len}
use Rattle.std.specs.Option.{option_map}
use Rattle.grid_base.specs.declared.piece.Piece.{Piece}
use Rattle.grid_base.specs.Lists.{At}
use Rattle.grid_graph.specs.declared.design.Design.{Design}
use Rattle.grid_graph.specs.declared.grid.Grid.{Grid}
use Rattle.grid_graph.specs.Grids.{edge_numbers, entries}
use Rattle.edge_prices.specs.declared.budget.Budget.{Budget}
use Rattle.edge_prices.specs.Budgets.{most_of}
use Rattle.edge_prices.specs.Vectors.{price_vector}
use Rattle.edge_prices.specs.Weights.{wirelength_price}
use Rattle.fractions.specs.declared.fraction.Fraction.{Fraction}
use Rattle.fractions.specs.Fractions.{IsAtMost}
use Rattle.sharing_runs.specs.NetSteps.{IsStep}
use Rattle.routing_stages.specs.Phases.{phases_load}
use Rattle.dual_bound.specs.DesignBounds.{IsBoundOrNone}
use Rattle.bound_climb.specs.declared.climbed.Climbed.{Climbed}

-- the most turns
abbrev pub max_turns : ℕ
max_turns = 16

-- the greatest load that may be given
abbrev pub max_given_load : ℕ
max_given_load = 2 ^ 60

-- a climb has so many turns
abbrev pub MayBeTurns : ℕ → Type 0
MayBeTurns turns = (1 ≤ turns) × (turns ≤ max_turns)

-- loads that may be given: one for each edge number and one for the wirelength
pub record AreGivenLoads (g : Grid) (loads : List ℕ) : Type 0 where
  pub long : length loads ≡ entries g
  pub within : (r : ℕ) → slice_index loads r ≤ max_given_load

-- the loads after so many turns: the given ones, and those of the sets of these turns
abbrev pub climb_loads : Design → List ℕ → List (List (List Piece)) → ℕ → List ℕ
climb_loads d loads steps turns =
    map (λ r. slice_index loads r + phases_load d.grid d.nets (take turns steps) r) (range_with_len 0 (entries d.grid))

-- one set for each net, each of which is a step from these loads
abbrev pub AreSteps : Design → Option ℕ → List ℕ → List (List Piece) → Type 0
AreSteps d most loads trees = AllZip (λ n tree. IsStep d.grid n loads 1 most tree) d.nets trees

-- the sets of a climb's turns: in each turn but the last every net gets a step, all from the loads after the turns before it
pub record AreClimbSteps (d : Design) (most : Option ℕ) (loads : List ℕ) (turns : ℕ) (steps : List (List (List Piece))) : Type 0 where
  pub long : length steps + 1 ≡ turns
  pub each : (turn : ℕ) (trees : List (List Piece)) → At steps turn trees → AreSteps d most (climb_loads d loads steps turn) trees

-- the price vector of the loads after so many turns
abbrev pub climb_vector : Design → Option ℕ → List ℕ → List (List (List Piece)) → ℕ → List ℕ
climb_vector d most loads steps turns = price_vector d.grid (climb_loads d loads steps turns) 1 most

-- the budget with the wirelength's price, which stands last in a price vector
abbrev pub with_price_of : Grid → List ℕ → Option Budget → Option Budget
with_price_of g vector budget = option_map (λ b. record { most = b.most; price = wirelength_price g vector }) budget

-- the edges' prices of a candidate: candidate 0 is given, each other one is the price vector of the loads before the turn of its
-- number
abbrev pub candidate_prices : Design → List ℕ → Option Budget → List ℕ → List (List (List Piece)) → ℕ → List ℕ
candidate_prices d prices budget loads steps zero = prices
candidate_prices d prices budget loads steps (suc before) = take (edge_numbers d.grid) (climb_vector d (most_of budget) loads steps before)

-- its budget, with the price of the wirelength
abbrev pub candidate_budget : Design → Option Budget → List ℕ → List (List (List Piece)) → ℕ → Option Budget
candidate_budget d budget loads steps zero = budget
candidate_budget d budget loads steps (suc before) = with_price_of d.grid (climb_vector d (most_of budget) loads steps before) budget

-- a bound is greater than another: it is a fraction that isn't at most the other, by cross products; none is below every fraction
abbrev pub IsGreaterBound : Option Fraction → Option Fraction → Type 0
IsGreaterBound None other = ⊥
IsGreaterBound (Some f) None = Unit {0}
IsGreaterBound (Some f) (Some other) = ¬ IsAtMost f other

-- the first of the greatest of some bounds, and its place
pub record IsFirstGreatest (bounds : List (Option Fraction)) (place : ℕ) (bound : Option Fraction) : Type 0 where
  pub stands : At bounds place bound
  pub greatest : (k : ℕ) (other : Option Fraction) → At bounds k other → ¬ IsGreaterBound other bound
  pub first : (k : ℕ) (other : Option Fraction) → k < place → At bounds k other → IsGreaterBound bound other

-- the bounds of all candidates, where the last one has this number
pub record AreCandidateBounds (d : Design) (prices : List ℕ) (budget : Option Budget) (loads : List ℕ) (steps : List (List (List Piece))) (last : ℕ) (bounds : List (Option Fraction)) : Type 0 where
  pub long : length bounds ≡ last + 1
  pub each : (k : ℕ) (bound : Option Fraction) → At bounds k bound
      → IsBoundOrNone d (candidate_prices d prices budget loads steps k) (candidate_budget d budget loads steps k) bound

-- the sets of all turns
abbrev pub steps_of : Climbed → List (List (List Piece))
steps_of climbed = map (λ trees. trees.items) climbed.steps.items

-- the first candidate of the greatest bound, with this bound and its number
pub record IsBestCandidate (d : Design) (prices : List ℕ) (budget : Option Budget) (loads : List ℕ) (turns : ℕ) (climbed : Climbed) : Type 0 where
  pub bounds : List (Option Fraction)
  pub are_bounds : AreCandidateBounds d prices budget loads (steps_of climbed) turns bounds
  pub best : IsFirstGreatest bounds climbed.turn climbed.bound
  pub best_prices : climbed.prices.items ≡ candidate_prices d prices budget loads (steps_of climbed) climbed.turn
  pub best_budget : climbed.budget ≡ candidate_budget d budget loads (steps_of climbed) climbed.turn
