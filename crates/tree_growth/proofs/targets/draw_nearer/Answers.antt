use Rattle.std.proofs.Common.{ℕ, ◌≡◌, ◌<◌, ◌+◌, ◌++◌, List, length, map, take, drop, get_or, set, sym, subst, arith}
use Rattle.std.proofs.lemmas.List.{get_or_default}
use Rattle.std.proofs.lemmas.List.Edits.{map_over_more}
use Rattle.net_search.specs.declared.site.Site.{Site}
use Rattle.net_search.specs.declared.target.Target.{Target}
use Rattle.net_search.specs.Targets.{drawn_nearer}
use Rattle.tree_growth.proofs.targets.draw_nearer.Goals as goal

-- one target more was told
told_more : (joined : List Site) (all now : List Target) (i : ℕ) (d new : Target) → i < length all → length now ≡ length all
    → now ≡ map (drawn_nearer joined) (take i all) ++ drop i all → new ≡ drawn_nearer joined (get_or now i d)
    → set now i new ≡ map (drawn_nearer joined) (take (i + 1) all) ++ drop (i + 1) all
told_more joined all now i d new within long so_far is =
    subst (λ (x : Target). set now i x ≡ map (drawn_nearer joined) (take (i + 1) all) ++ drop (i + 1) all) (sym is)
    (map_over_more (drawn_nearer joined) all now i (get_or now i d) within so_far (get_or_default now i d (get_or now i d) (omega (arith, within, long))))

pub loop-target-preserved : goal.loop-target-preserved
loop-target-preserved c =
    told_more c.args.joined.now c.args.left.now c.loop-target.left c.loop-target.target-index _ c.draw_nearer.new.self
    c.loop-target-test.true c.loop-target.auto.left c.loop-target.invariant c.draw_nearer.ensures.nearest
