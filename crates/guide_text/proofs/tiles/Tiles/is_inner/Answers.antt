use Rattle.std.proofs.Common.{◌≡◌, ◌+◌, ◌-◌, ◌<◌, length, sym, ap, subst, ◌∙◌, get_or, arith}
use Rattle.std.proofs.lemmas.Bool.{ltb-true}
use Rattle.std.proofs.lemmas.List.Elements.{Contains-get_or}
use Rattle.grid_base.specs.Numbers.{place_at}
use Rattle.guide_text.specs.RouteTiles.{HasTileBehind}
use Rattle.guide_text.proofs.Following.{next_listed, is_next_listed, before_next, prior_followed}
use Rattle.guide_text.proofs.tiles.Tiles.is_inner.Goals as goal

pub returns-then-at-gt0 : goal.returns-then-at-gt0
returns-then-at-gt0 c =
    let tiles = c.args.self.now in
    let xs = tiles.numbers.items in
    let s = tiles.size in
    let at = c.args.at in
    let j = at - 1 in
    let below : j < length xs = omega (arith, c.requires) in
    let behind_at : j + 1 ≡ at = omega (arith, c.if-at-gt0.true) in (
      λ yes. let behind = c.is_followed.ensures.0 yes in
          let next = next_listed xs j tiles.rising below (is_next_listed s xs (get_or xs j 0) behind) in
          before_next s xs (get_or xs j 0) (get_or xs at 0) (tiles.vertices j 0 below) (Contains-get_or xs j 0 below) (ap (λ k. get_or xs k 0) (sym behind_at) ∙ next.1) behind,
      λ before. let prior = prior_followed s xs at tiles.rising c.requires (tiles.vertices at 0 c.requires) (Contains-get_or xs at 0 c.requires) before in
          let same : prior.0 ≡ j = omega (arith, prior.1) in
          c.is_followed.ensures.1 (subst (λ k. HasTileBehind s xs (place_at s (get_or xs k 0))) same prior.2),
    )

pub returns-else-at-gt0 : goal.returns-else-at-gt0
returns-else-at-gt0 c =
    let tiles = c.args.self.now in
    let xs = tiles.numbers.items in
    let at = c.args.at in (
      λ above. absurd (omega (arith, ltb-true 0 at above, c.if-at-gt0.false)),
      λ before. let prior = prior_followed tiles.size xs at tiles.rising c.requires (tiles.vertices at 0 c.requires) (Contains-get_or xs at 0 c.requires) before in
          absurd (omega (arith, prior.1, c.if-at-gt0.false)),
    )
