use Rattle.std.proofs.Common.{List, ◌-◌, length}
use Rattle.route_text.specs.declared.segment.Segment.{Segment}
use Rattle.route_text.proofs.ReadSegments.{AreRead}
use Rattle.route_text.proofs.reading.add_segments.Given as goal

abbrev pub invariant-loop-segments : goal.invariant-loop-segments
invariant-loop-segments l = (more : List Segment) × AreRead l.fn.scanner l.scanner l.fn.segments.items l.segments.items more

abbrev pub decreases-loop-segments : goal.decreases-loop-segments
decreases-loop-segments l = length l.fn.scanner.text - l.scanner.place
