use Rattle.dual_bound.proofs.Bounding.{net_bounds_bound}
use Rattle.dual_bound.proofs.Duality.{duality, nothing_bounds}
use Rattle.dual_bound.proofs.laws.weak_duality.Goals as goal

pub returns-clause-low : goal.returns-clause-low
returns-clause-low c d prices budget lows a b are some low positive bound = duality d prices budget lows a b are some low positive bound

pub returns-clause-net_bounds : goal.returns-clause-net_bounds
returns-clause-net_bounds c d prices budget total a b are some is positive bound = net_bounds_bound d prices budget total a b are some is positive bound

pub returns-clause-zero : goal.returns-clause-zero
returns-clause-zero c d budget r b resource positive = nothing_bounds d budget r b resource positive
