use Rattle.std.proofs.Common.{◌≡◌, ◌≤◌, take}
use Rattle.std.specs.Prelude.{min}
use Rattle.std.specs.List.{All, fold}
use Rattle.net_search.specs.Sites.{tiles_between}
use Rattle.net_search.proofs.target.Target.draw_nearer.Given as goal

abbrev pub invariant-loop-other : goal.invariant-loop-other
invariant-loop-other l = record {
  site : l.self.site ≡ l.initial.self.site;
  nearer : l.self.distance ≤ l.initial.self.distance;
  all : All (λ site. l.self.distance ≤ tiles_between l.initial.self.site site) (take l.other-index l.joined);
  nearest : l.self.distance ≡ fold (λ least site. min least (tiles_between l.initial.self.site site)) l.initial.self.distance (take l.other-index l.joined);
}
