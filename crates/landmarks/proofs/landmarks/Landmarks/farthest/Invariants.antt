use Rattle.grid_base.specs.Numbers.{IsVertex}
use Rattle.landmarks.proofs.landmarks.Landmarks.farthest.Given as goal

-- both are vertices
abbrev pub invariant-loop-v : goal.invariant-loop-v
invariant-loop-v l = record { found : IsVertex l.fn.size l.reached; past : IsVertex l.fn.size l.beyond }
