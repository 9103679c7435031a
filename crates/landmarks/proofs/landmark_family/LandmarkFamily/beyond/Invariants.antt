use Rattle.std.proofs.Common.{◌≡◌}
use Rattle.landmarks.specs.Spans.{widest_span}
use Rattle.landmarks.proofs.landmark_family.LandmarkFamily.beyond.Given as goal

-- how far they reach by the landmarks before this one
abbrev pub invariant-loop-landmark : goal.invariant-loop-landmark
invariant-loop-landmark g l =
    l.widest ≡ widest_span l.self.landmarks.now.numbers.items l.self.terminals.now l.fn.mask l.fn.v.0 l.landmark
