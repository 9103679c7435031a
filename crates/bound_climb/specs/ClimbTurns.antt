-- What the nets of a turn see, and the steps that they get.
use Rattle.std.specs.Prelude.{ℕ, ◌+◌, ◌*◌, ◌≡◌, ◌≤◌, List, Option, IfSome, length, slice_index, take}
use Rattle.std.specs.List.{AllZip, slice_range}
use Rattle.even_parts.specs.EvenParts.{part_start}
use Rattle.grid_base.specs.declared.piece.Piece.{Piece}
use Rattle.grid_graph.specs.declared.design.Design.{Design}
use Rattle.grid_graph.specs.declared.grid.Grid.{Grid}
use Rattle.grid_graph.specs.declared.net_spec.NetSpec.{NetSpec}
use Rattle.grid_graph.specs.Grids.{edge_numbers}
use Rattle.grid_graph.specs.Grounds.{AreGrounds}
use Rattle.grid_graph.specs.Limits.{max_load}
use Rattle.edge_prices.specs.declared.budget.Budget.{Budget}
use Rattle.edge_prices.specs.KeptLists.{grid_of, scale_of, budget_of, loads_of, vector_of, IsRenewed, KeepsSetting}
use Rattle.edge_prices.specs.Budgets.{most_of}
use Rattle.fractions.specs.declared.fraction.Fraction.{Fraction}
use Rattle.sharing_runs.specs.NetSteps.{IsStep}
use Rattle.tree_set.specs.Loads.{load_on, max_tree_load}
use Rattle.tree_set.specs.Order.{IsRising}
use Rattle.tree_set.specs.Routings.{IsRoute}
use Rattle.dual_bound.specs.Bounds.{BoundsDesign}
use Rattle.dual_bound.specs.DesignBounds.{IsBoundOrNone}
use Rattle.bound_climb.specs.Climbs.{with_price_of, IsGreaterBound}
use Rattle.bound_climb.specs.declared.climb_sight.ClimbSight.{ClimbSight}
use Rattle.bound_climb.specs.declared.climbed.Climbed.{Climbed}

-- in so many parts the nets are divided at most
abbrev pub max_climb_parts : ℕ
max_climb_parts = 8

-- the nets that are seen
abbrev pub seen_nets : ClimbSight → List NetSpec
seen_nets s = s.design.now.nets

-- prices of this very grid that are renewed, and a ground for each net
pub record IsClimbSight (s : ClimbSight) : Type 0 where
  pub grid : grid_of s.kept ≡ s.design.now.grid
  pub renewed : IsRenewed s.kept
  pub grounds : AreGrounds s.design.now.grid s.design.now.nets s.grounds.now

-- the same nets and grounds are seen, at prices of the same kind
pub record SeesSame (old new : ClimbSight) : Type 0 where
  pub design : new.design ≡ old.design
  pub grounds : new.grounds ≡ old.grounds
  pub setting : KeepsSetting old.kept new.kept

-- a step of a net from the seen loads
abbrev pub IsStepSeen : ClimbSight → NetSpec → List Piece → Type 0
IsStepSeen s n tree = IsStep s.design.now.grid n (loads_of s.kept) (scale_of s.kept) (budget_of s.kept) tree

-- one for each of some nets
abbrev pub AreStepsSeen : ClimbSight → List NetSpec → List (List Piece) → Type 0
AreStepsSeen s nets trees = AllZip (IsStepSeen s) nets trees

-- one for each net of a part, where the nets are divided in so many parts
pub record AreStepsOfPart (s : ClimbSight) (parts part : ℕ) (trees : List (List Piece)) : Type 0 where
  pub steps : AreStepsSeen s (slice_range (seen_nets s) (part_start parts (length (seen_nets s)) part) (part_start parts (length (seen_nets s)) (part + 1))) trees

-- a set for each net: a route of the net, whose pieces rise
abbrev pub AreSetsFor : Design → List (List Piece) → Type 0
AreSetsFor d trees = AllZip (λ n tree. IsRoute d.grid n tree × IsRising tree) d.nets trees

-- loads with room for the sets of so many nets
abbrev pub HaveRoomFor : ℕ → List ℕ → Type 0
HaveRoomFor nets loads = (r : ℕ) → slice_index loads r + nets * max_tree_load ≤ max_load

-- the loads gain those of a set for each net
pub record GainsSets (g : Grid) (nets : List NetSpec) (trees : List (List Piece)) (old new : List ℕ) : Type 0 where
  pub value : (r : ℕ) → slice_index new r ≡ slice_index old r + load_on g nets trees r
  pub limit : (r : ℕ) → slice_index new r ≤ slice_index old r + length trees * max_tree_load

-- a climb's best price list is this one, with its bound and the number of its turn
pub record HasAsBest (prices : List ℕ) (budget : Option Budget) (bound : Option Fraction) (turn : ℕ) (climbed : Climbed) : Type 0 where
  pub prices_are : climbed.prices.items ≡ prices
  pub budget_is : climbed.budget ≡ budget
  pub bound_is : climbed.bound ≡ bound
  pub turn_is : climbed.turn ≡ turn

-- the prices that a turn's nets see, those of the edges alone, and the budget with the wirelength's price
abbrev pub seen_prices : ClimbSight → List ℕ
seen_prices s = take (edge_numbers s.design.now.grid) (vector_of s.kept)

abbrev pub seen_budget : ClimbSight → Option Budget → Option Budget
seen_budget s budget = with_price_of s.design.now.grid (vector_of s.kept) budget

-- the seen prices were offered with the bound at them: they are the best ones where that is greater than the best bound before
pub record IsOffered (s : ClimbSight) (budget : Option Budget) (turn : ℕ) (old new : Climbed) : Type 0 where
  pub bound : Option Fraction
  pub is_bound : IsBoundOrNone s.design.now (seen_prices s) (seen_budget s budget) bound
  pub bounds : IfSome bound (λ f. BoundsDesign s.design.now (most_of budget) f.num f.den)
  pub taken : IsGreaterBound bound old.bound → HasAsBest (seen_prices s) (seen_budget s budget) bound turn new
  pub left : ¬ IsGreaterBound bound old.bound → new ≡ old
  pub steps : new.steps ≡ old.steps
