use Rattle.route_judge.proofs.MissingNets.{AreMissingBelow}
use Rattle.route_judge.proofs.missing.missing_nets.Given as goal

-- the nets so far that lack a block are listed
abbrev pub invariant-loop-place : goal.invariant-loop-place
invariant-loop-place l = AreMissingBelow l.design l.taken l.place l.missing.items
