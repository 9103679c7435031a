use Rattle.std.proofs.Common.{◌≡◌, ◌++◌, drop, map}
use Rattle.std.specs.List.{enumerate_from}
use Rattle.hot_cuts.specs.Standings.{standing_of}
use Rattle.hot_cuts.proofs.offers.standings.Given as goal

-- the offers left are still to be listed
abbrev pub invariant-loop-place : goal.invariant-loop-place
invariant-loop-place l = l.standings.items ++ map standing_of (enumerate_from l.place (drop l.place l.offers))
    ≡ map standing_of (enumerate_from 0 l.offers)
