use Rattle.std.proofs.Common.{◌≡◌, ℕ, ◌≤◌, ◌+◌, ◌∙◌, List, take, min, arith, ap, sym, subst}
use Rattle.std.specs.List.{All, fold}
use Rattle.std.proofs.lemmas.List.{take_all}
use Rattle.net_search.specs.Sites.{tiles_between}
use Rattle.net_search.specs.declared.site.Site.{Site}
use Rattle.net_search.specs.declared.target.Target.{Target}
use Rattle.net_search.proofs.Least.{least_fold, least_more, all_end}
use Rattle.net_search.proofs.target.Target.draw_nearer.Goals as goal

-- a target is its site and its distance
target_of : (now : Target) (site : Site) (distance : ℕ) → now.site ≡ site → now.distance ≡ distance → now ≡ record { site = site; distance = distance }
target_of now site distance is_site is_distance =
    ap (λ here. record { site = here; distance = now.distance }) is_site ∙ ap (λ steps. record { site = site; distance = steps }) is_distance

pub loop-other-preserved : goal.loop-other-preserved
loop-other-preserved c =
    let So : ℕ → Site → Type 0 = λ least here. All (λ (site : Site). least ≤ tiles_between here site) (take c.loop-other.other-index c.args.joined.now) in
    let Least : ℕ → ℕ → Site → Type 0 = λ i least here. least ≡ fold (λ low (site : Site). min low (tiles_between here site)) c.args.self.now.distance (take i c.args.joined.now) in
    let More : Site → Type 0 = λ here. All (λ (site : Site). c.min-self.result ≤ tiles_between here site) (take (c.loop-other.other-index + 1) c.args.joined.now) in
    record {
      site = c.loop-other.invariant.site;
      nearer = omega (arith, c.loop-other.invariant.nearer, c.min-self.ensures);
      all = subst More c.loop-other.invariant.site
          (least_more (λ (site : Site). tiles_between c.loop-other.self.site site) c.args.joined.now c.loop-other.other-index _ c.loop-other.self.distance c.min-self.result _
          c.loop-other-test.true c.tiles_to.ensures c.min-self.ensures
          (subst (So c.loop-other.self.distance) (sym c.loop-other.invariant.site) c.loop-other.invariant.all));
      nearest = subst (Least (c.loop-other.other-index + 1) c.min-self.result) c.loop-other.invariant.site
          (least_fold (λ (site : Site). tiles_between c.loop-other.self.site site) c.args.joined.now c.loop-other.other-index _ c.args.self.now.distance c.loop-other.self.distance c.min-self.result _
          c.loop-other-test.true c.tiles_to.ensures c.min-self.ensures
          (subst (Least c.loop-other.other-index c.loop-other.self.distance) (sym c.loop-other.invariant.site) c.loop-other.invariant.nearest));
    }

pub returns-clause-all : goal.returns-clause-all
returns-clause-all c =
    let So : Site → Type 0 = λ site. c.loop-other.self.distance ≤ tiles_between c.args.self.now.site site in
    all_end So c.args.joined.now c.loop-other.other-index (omega (arith, c.loop-other-test.false)) c.loop-other.invariant.all

pub returns-clause-nearest : goal.returns-clause-nearest
returns-clause-nearest c =
    let least : List Site → ℕ = λ sites. fold (λ low (site : Site). min low (tiles_between c.args.self.now.site site)) c.args.self.now.distance sites in
    let whole : c.loop-other.self.distance ≡ least c.args.joined.now =
    c.loop-other.invariant.nearest ∙ ap least (take_all c.loop-other.other-index c.args.joined.now (omega (arith, c.loop-other-test.false))) in
    target_of c.loop-other.self c.args.self.now.site (least c.args.joined.now) c.loop-other.invariant.site whole
