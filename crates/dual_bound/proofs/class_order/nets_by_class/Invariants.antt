use Rattle.std.proofs.Common.{◌≤◌, All}
use Rattle.dual_bound.specs.ClassOrders.{IsPlaceOf, HasEachPlace}
use Rattle.dual_bound.proofs.class_order.nets_by_class.Given as goal

-- the nets from the first one up to this place
abbrev pub invariant-loop-place : goal.invariant-loop-place
invariant-loop-place l = record {
  order : l.fn.from ≤ l.place;
  inside : All (IsPlaceOf l.fn.from l.fn.to) l.nets.items;
  whole : HasEachPlace l.fn.from l.place l.nets.items;
}
