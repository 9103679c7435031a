use Rattle.std.proofs.Common.{◌≡◌, map}
use Rattle.net_search.proofs.search.NetSearch.nearest.Given as goal

abbrev pub invariant-loop : goal.invariant-loop
invariant-loop l = map (λ goal. goal.site) l.self.goals.items ≡ map (λ target. target.site) l.targets
