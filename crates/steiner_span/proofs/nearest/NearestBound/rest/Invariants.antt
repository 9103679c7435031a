use Rattle.std.proofs.Common.{◌≤◌, All, take}
use Rattle.grid_base.specs.declared.place.Place.{Place}
use Rattle.steiner_span.specs.Aheads.{least_rest}
use Rattle.label_search.specs.Floors.{floor_distance}
use Rattle.label_search.specs.Stamped.{far}
use Rattle.steiner_span.proofs.nearest.NearestBound.rest.Given as goal

abbrev pub invariant-loop-goal : goal.invariant-loop-goal
invariant-loop-goal g l = record {
  small : l.least ≤ far;
  above : least_rest l.self.size l.self.floors l.self.left.items l.fn._v.0 ≤ l.least;
  below : All (λ (p : Place). l.least ≤ floor_distance l.self.floors l.place p) (take l.goal-index l.self.left.items);
}
