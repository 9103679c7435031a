use Rattle.std.proofs.Common.{◌≡◌}
use Rattle.landmarks.specs.Spans.{span_of}
use Rattle.landmarks.proofs.spans.span_of.Given as goal

-- what the terminals before this place span
abbrev pub invariant-loop-place : goal.invariant-loop-place
invariant-loop-place l = l.span ≡ span_of l.landmarks.numbers.items l.terminals l.fn.mask l.place l.fn.landmark
