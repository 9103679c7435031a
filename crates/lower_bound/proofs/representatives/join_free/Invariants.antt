use Rattle.lower_bound.specs.Representatives.{AreRepresentatives}
use Rattle.lower_bound.proofs.representatives.join_free.Given as goal

abbrev pub invariant-loop-e : goal.invariant-loop-e
invariant-loop-e g l = AreRepresentatives l.fn.size (g.W.Weights.pieces l.weights) l.groups.parents.items
