use Rattle.std.proofs.Common.{◌≡◌}
use Rattle.hot_cuts.specs.Estimates.{of_capacities}
use Rattle.hot_cuts.proofs.market.Market.estimate.Given as goal

-- the capacities cost what they do without nets
abbrev pub invariant-loop-bundle : goal.invariant-loop-bundle
invariant-loop-bundle l = l.estimate.capacity_cost ≡ (of_capacities l.initial.self.links.now l.prices).capacity_cost
