use Rattle.std.proofs.Common.{◌≡◌, fold, map}
use Rattle.hot_cuts.specs.Estimates.{no_estimate, with_link}
use Rattle.hot_cuts.proofs.market.capacities_at.Given as goal

-- the links so far
abbrev pub invariant-loop-link : goal.invariant-loop-link
invariant-loop-link l = l.estimate ≡ fold with_link no_estimate (map (λ (p : _). (p.0.now, p.1.now)) l.yielded)
