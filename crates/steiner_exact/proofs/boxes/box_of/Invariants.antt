use Rattle.std.proofs.Common.{◌≡◌}
use Rattle.steiner_exact.specs.Boxes.{first_box}
use Rattle.steiner_exact.proofs.boxes.box_of.Given as goal

-- the box of the terminals before this place
abbrev pub invariant-loop-place : goal.invariant-loop-place
invariant-loop-place l = l.found ≡ first_box l.fn.size l.terminals l.mask l.place
