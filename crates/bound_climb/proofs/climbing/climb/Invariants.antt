use Rattle.std.proofs.Common.{◌≡◌}
use Rattle.edge_prices.specs.Budgets.{most_of}
use Rattle.bound_climb.specs.Climbs.{steps_of}
use Rattle.bound_climb.specs.ClimbTurns.{IsClimbSight}
use Rattle.bound_climb.proofs.ClimbStates.{IsClimbing, KeepsLoads}
use Rattle.bound_climb.proofs.climbing.climb.Given as goal

-- the candidates up to the number of the turn were offered, and what is seen are the prices of the loads of all turns before it
abbrev pub invariant-loop-turn : goal.invariant-loop-turn
invariant-loop-turn g l = record {
  ready : IsClimbSight l.sight;
  on : l.sight.design.now ≡ l.fn.design;
  keeps : KeepsLoads l.fn.design (most_of l.budget) l.fn.loads (steps_of l.climbed) l.sight.kept;
  climbing : IsClimbing l.fn.design l.fn.prices l.budget l.fn.loads l.turn l.climbed;
}
