use Rattle.rounding_pick.proofs.Keeping.{IsPickedUpTo}
use Rattle.rounding_pick.proofs.rounding.keep_picked.Given as goal

-- the nets so far have their picked sets
abbrev pub invariant-loop-position : goal.invariant-loop-position
invariant-loop-position l = IsPickedUpTo l.design l.seed l.initial.first l.initial.others l.position l.first l.others
