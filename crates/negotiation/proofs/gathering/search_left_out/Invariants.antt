use Rattle.negotiation.specs.Searches.{AreFound}
use Rattle.negotiation.proofs.gathering.search_left_out.Given as goal

-- at each place stands what is found for its net
abbrev pub invariant-loop-place : goal.invariant-loop-place
invariant-loop-place l = AreFound l.sight.design.now l.nets l.found.items
