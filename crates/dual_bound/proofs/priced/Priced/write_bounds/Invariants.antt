use Rattle.std.proofs.Common.{◌≡◌, All, length, take}
use Rattle.dual_bound.specs.Classes.{IsClassOf, ServesClass}
use Rattle.dual_bound.specs.ClassOrders.{HasBoundOf}
use Rattle.dual_bound.proofs.priced.Priced.write_bounds.Given as goal

-- the bounds of the nets so far are written
abbrev pub invariant-loop-net : goal.invariant-loop-net
invariant-loop-net l = record {
  long : length l.bounds ≡ length l.initial.bounds;
  bounds : All (HasBoundOf l.self l.fn.from l.bounds) (take l.net-index l.nets);
  costs : IsClassOf l.self l.costs;
  labels : ServesClass l.self l.costs l.labels;
}
