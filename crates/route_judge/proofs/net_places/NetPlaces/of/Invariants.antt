use Rattle.std.specs.BTreeMap.{get}
use Rattle.std.specs.Ordering.{nat_cmp}
use Rattle.route_judge.specs.NetPlaces.{ArePlacesBelow}
use Rattle.route_judge.proofs.net_places.NetPlaces.of.Given as goal

-- the places of the nets so far
abbrev pub invariant-loop-place : goal.invariant-loop-place
invariant-loop-place l = ArePlacesBelow l.nets l.place (get nat_cmp l.places)
