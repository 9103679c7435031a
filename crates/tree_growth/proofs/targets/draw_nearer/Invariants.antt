use Rattle.std.proofs.Common.{◌≡◌, ◌++◌, map, take, drop}
use Rattle.net_search.specs.Targets.{drawn_nearer}
use Rattle.tree_growth.proofs.targets.draw_nearer.Given as goal

-- the targets so far were told
abbrev pub invariant-loop-target : goal.invariant-loop-target
invariant-loop-target l = l.left ≡ map (drawn_nearer l.joined) (take l.target-index l.initial.left) ++ drop l.target-index l.initial.left
