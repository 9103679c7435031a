use Rattle.std.proofs.Common.{◌≡◌, map, take}
use Rattle.net_search.proofs.search.NetSearch.aim.Given as goal

abbrev pub invariant-loop-target : goal.invariant-loop-target
invariant-loop-target l = map (λ goal. goal.site) l.self.goals.items ≡ map (λ target. target.site) (take l.target-index l.targets)
