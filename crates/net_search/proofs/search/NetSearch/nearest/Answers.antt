use Rattle.std.proofs.Common.{List, ◌≡◌, subst, ◌∙◌}
use Rattle.std.specs.List.{Any}
use Rattle.net_search.specs.declared.goal.Goal.{Goal}
use Rattle.net_search.specs.declared.site.Site.{Site}
use Rattle.net_search.proofs.Found.{found_target}
use Rattle.net_search.proofs.search.NetSearch.nearest.Goals as goal

pub returns-in-Some : goal.returns-in-Some
returns-in-Some c =
    let Is : Site → Type 0 = λ site. site.vertex ≡ c.in-Some.site.vertex in
    let AnyOf : List Goal → Type 0 = λ goals. Any (λ (goal : Goal). goal.site.vertex ≡ c.in-Some.site.vertex) goals in
    let found = rw c.in-Some.is at c.in_ok-site.ensures in
    found_target c.loop.self.goals.items c.args.targets.now Is c.loop.invariant
    (subst AnyOf (c.of-view.ensures.goals ∙ c.as_slice.ensures.value) found)
