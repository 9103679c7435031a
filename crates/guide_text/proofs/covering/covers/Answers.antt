use Rattle.std.proofs.Common.{◌≡◌, ℕ, List, Bool, Contains, false, true, length, replicate, sym, ap, subst, ◌∙◌}
use Rattle.std.specs.Prelude.{◌↔◌, All}
use Rattle.std.specs.List.{IsAnyAnswer}
use Rattle.std.proofs.Math.Bool.{beq}
use Rattle.grid_base.specs.Lists.{At}
use Rattle.grid_graph.specs.declared.net_spec.NetSpec.{NetSpec}
use Rattle.guide_text.specs.declared.rect.Rect.{Rect}
use Rattle.guide_text.specs.Covering.{IsCovered, IsTiled}
use Rattle.guide_text.specs.Guides.{tiles_on}
use Rattle.guide_text.specs.Marking.{AreMarked, HasEach}
use Rattle.guide_text.specs.RouteTiles.{route_tiles}
use Rattle.guide_text.proofs.GuideLists.{read_at}
use Rattle.guide_text.proofs.MarkedRects.{covering, not_covering}
use Rattle.guide_text.proofs.covering.covers.Goals.{After-mark_rects}
use Rattle.guide_text.proofs.covering.covers.Goals as goal

-- the tiles that were listed are those of the net's route
same_tiles : (c : After-mark_rects) (n : NetSpec) → At c.args.design.now.nets c.args.net n → (v : ℕ) → Contains c.in_ok-tiles.tiles.numbers.items v ↔ Contains (tiles_on c.args.design.now.grid n c.args.tree.now) v
same_tiles c n at v =
    let net : c.index-list-net.result ≡ n = read_at c.args.design.now.nets _ c.args.net c.index-list-net.result n c.list.ensures.items c.index-list-net.is at in
    let terminals = c.list-terminals.ensures.items ∙ ap (λ (m : NetSpec). m.terminals) (sym c.index-list-net.is ∙ net) in
    let route : route_tiles c.size.result c.args.tree.now c.list-terminals.result.now ≡ tiles_on c.args.design.now.grid n c.args.tree.now = λ i. route_tiles (c.size.ensures i) c.args.tree.now (terminals i) in
    subst (λ (tiles : List ℕ). Contains c.in_ok-tiles.tiles.numbers.items v ↔ Contains tiles v) route (c.in_ok-tiles.ensures.same v)

pub returns-then-not-mark_rects : goal.returns-then-not-mark_rects
returns-then-not-mark_rects c n at =
    let g = c.args.design.now.grid in
    let tiles = c.in_ok-tiles.tiles.numbers.items in
    let missing = subst (λ (rects : List Rect). ¬ (All (IsTiled g) rects × HasEach tiles (IsCovered g rects))) c.list-3.ensures c.if-not-mark_rects.ensures in (
      λ (no : false ≡ true). absurd (cc no),
      λ covers. absurd (not_covering g n c.args.tree.now c.args.guide.now tiles (same_tiles (goal.at.returns-then-not-mark_rects c).After-mark_rects n at) missing covers),
    )

pub returns : goal.returns
returns c n at =
    let g = c.args.design.now.grid in
    let tiles = c.in_ok-tiles.tiles.numbers.items in
    let unmarked = c.in_ok-marks.ensures.items_if_clones_equal (λ y same. same) ∙ ap (λ (xs : List ℕ). replicate (length xs) false) c.list-2.ensures in
    let are = subst (λ (rects : List Rect). All (IsTiled g) rects × AreMarked tiles (IsCovered g rects) c.in_ok-marks.marks.items c.mark_rects.new.marks.items) c.list-3.ensures c.if-not-mark_rects.ensures in
    let answer = subst (λ (marks : List Bool). IsAnyAnswer (λ y t. beq y false ≡ t) marks c.contains.result) c.as_slice.ensures.value c.contains.ensures.cases in
    covering g n c.args.tree.now c.args.guide.now tiles c.in_ok-marks.marks.items c.mark_rects.new.marks.items c.contains.result (same_tiles (goal.at.returns c).After-mark_rects n at) unmarked are answer
