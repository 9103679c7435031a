use Rattle.std.proofs.Common.{◌≡◌, drop, slice_get}
use Rattle.grid_base.specs.Neighbours.{steps, present, neighbours}
use Rattle.grid_base.proofs.sides.nth_step.Given as goal

-- what is sought stands among the steps that are left
abbrev pub invariant-loop-side : goal.invariant-loop-side
invariant-loop-side l = slice_get (present (drop l.side (steps l.size l.v.0))) l.left ≡ slice_get (neighbours l.size l.v.0) l.i
