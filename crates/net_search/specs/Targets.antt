-- Terminals to which a search may lead.
use Rattle.std.specs.Prelude.{ℕ, List, min}
use Rattle.std.specs.List.{fold}
use Rattle.net_search.specs.declared.site.Site.{Site}
use Rattle.net_search.specs.declared.target.Target.{Target}
use Rattle.net_search.specs.Sites.{tiles_between}

-- where a target is
abbrev pub site_of_target : Target → Site
site_of_target target = target.site

-- the tile steps to it from what is joined
abbrev pub steps_to : Target → ℕ
steps_to target = target.distance

-- the target where more sites are joined: as near as the nearest of these, unless it was nearer before
abbrev pub drawn_nearer : List Site → Target → Target
drawn_nearer joined target = record target { distance = fold (λ least site. min least (tiles_between target.site site)) target.distance joined }
