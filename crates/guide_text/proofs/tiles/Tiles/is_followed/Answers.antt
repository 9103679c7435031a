use Rattle.std.proofs.Common.{◌≡◌, ◌+◌, ◌%◌, ◌<◌, Contains, length, true, false, sym, ◌∙◌, subst, get_or, arith}
use Rattle.std.proofs.lemmas.Bool.{not-true, not_from_false, ne_eqb, eqb-true, eqb-false}
use Rattle.std.proofs.lemmas.List.{get_or_default}
use Rattle.std.proofs.lemmas.List.Elements.{Contains-get_or}
use Rattle.grid_base.specs.Numbers.{cols}
use Rattle.guide_text.proofs.Following.{next_listed, behind_listed, is_next_listed, none_behind}
use Rattle.guide_text.proofs.Found.{rises}
use Rattle.guide_text.proofs.tiles.Tiles.is_followed.Goals.{After-index}
use Rattle.guide_text.proofs.tiles.Tiles.is_followed.Goals as goal

-- the two numbers that were read, at the default 0
read_next : (g : After-index) → (g.args.at + 1 < length g.args.self.now.numbers.items) × (g.index-next.result.now ≡ get_or g.args.self.now.numbers.items (g.args.at + 1) 0)
read_next c =
    let xs = c.args.self.now.numbers.items in
    let below : c.args.at + 1 < length xs = omega (arith, c.requires, c.if-at-len.false, c.len.ensures, c.args.self.now.numbers.ok.0) in
    (below, c.index-next.ensures ∙ get_or_default xs (c.args.at + 1) c.index-next.result.now 0 below)

read_this : (g : After-index) → g.index.result.now ≡ get_or g.args.self.now.numbers.items g.args.at 0
read_this c =
    let xs = c.args.self.now.numbers.items in
    c.index.ensures ∙ get_or_default xs c.args.at c.index.result.now 0 c.requires

pub returns-then-at-len : goal.returns-then-at-len
returns-then-at-len c =
    let tiles = c.args.self.now in
    let xs = tiles.numbers.items in (
      λ (no : false ≡ true). absurd (cc no),
      λ behind. let next = next_listed xs c.args.at tiles.rising c.requires (is_next_listed tiles.size xs (get_or xs c.args.at 0) behind) in
          absurd (omega (arith, next.0, c.if-at-len.true, c.len.ensures, tiles.numbers.ok.0)),
    )

pub returns-then-next-index-eq1 : goal.returns-then-next-index-eq1
returns-then-next-index-eq1 c =
    let tiles = c.args.self.now in
    let xs = tiles.numbers.items in
    let v = get_or xs c.args.at 0 in
    let next = read_next (goal.at.returns-then-next-index-eq1 c).After-index in
    let this = read_this (goal.at.returns-then-next-index-eq1 c).After-index in
    let is : c.index-next.result.now ≡ v + 1 = omega (arith, next.1, this, rises xs c.args.at (c.args.at + 1) tiles.rising (omega arith) next.0, c.if-next-index-eq1.true) in
    let rest : c.index-next.result.now % c.cols.result ≡ (v + 1) % cols tiles.size = λ i. is i % c.cols.ensures i in (
      λ other. behind_listed tiles.size xs v (c.args.self.now.vertices c.args.at 0 c.requires)
          (subst (Contains xs) (sym next.1 ∙ is) (Contains-get_or xs (c.args.at + 1) 0 next.0))
          (λ zero_rest. eqb-false (c.index-next.result.now % c.cols.result) 0 (not-true _ other) (rest ∙ zero_rest)),
      λ behind. not_from_false _ (ne_eqb (c.index-next.result.now % c.cols.result) 0 (λ zero_rest. none_behind tiles.size xs v (sym rest ∙ zero_rest) behind)),
    )

pub returns-else-next-index-eq1 : goal.returns-else-next-index-eq1
returns-else-next-index-eq1 c =
    let tiles = c.args.self.now in
    let xs = tiles.numbers.items in
    let read = read_next (goal.at.returns-else-next-index-eq1 c).After-index in
    let this = read_this (goal.at.returns-else-next-index-eq1 c).After-index in (
      λ same. absurd (c.if-next-index-eq1.false (eqb-true _ _ same)),
      λ behind. let next = next_listed xs c.args.at tiles.rising c.requires (is_next_listed tiles.size xs (get_or xs c.args.at 0) behind) in
          absurd (c.if-next-index-eq1.false (omega (arith, next.1, read.1, this))),
    )
