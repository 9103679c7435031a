use Rattle.std.proofs.Common.{◌≡◌, ◌-◌, ◌≤◌, max}
use Rattle.label_search.specs.Stamped.{far}
use Rattle.shortest_paths.specs.LabelWords.{label_of}
use Rattle.terminal_distances.specs.DistanceLows.{distance_low}
use Rattle.terminal_distances.proofs.distance_family.DistanceFamilyFamily.low.Given as goal

-- the distances from the terminals before this one count
abbrev pub invariant-loop-terminal : goal.invariant-loop-terminal
invariant-loop-terminal g l = record {
  value : l.low ≡ distance_low (g.B.Family.terminals l.self.bounds.now) (g.B.Family.low l.self.bounds.now) l.self.limit
      (label_of l.self.labels.now) l.self.first (l.terminal - l.self.first) l.mask l.v.0;
  within : l.low ≤ far;
  reached : l.terminal ≤ max l.self.first l.self.end;
}
