use Rattle.std.proofs.Common.{◌≡◌, true, false, sym, subst}
use Rattle.std.proofs.lemmas.Bool.{eqb-true, eq-eqb}
use Rattle.guide_text.specs.RouteTiles.{HasTileBefore}
use Rattle.guide_text.specs.TileRects.{IsTileRun}
use Rattle.guide_text.proofs.Runs.{first_tile, not_both, one_end}
use Rattle.guide_text.proofs.tiles.Tiles.is_run.Goals as goal

pub returns-in-None : goal.returns-in-None
returns-in-None c =
    let tiles = c.args.self.now in (
      λ (no : false ≡ true). absurd (cc no),
      λ run. absurd (c.in-None.ensures (first_tile tiles.size tiles.numbers.items c.args.layer c.args.row c.args.first c.args.last run)),
    )

pub returns-then-is_inner : goal.returns-then-is_inner
returns-then-is_inner c =
    let tiles = c.args.self.now in (
      λ (no : false ≡ true). absurd (cc no),
      λ run.
          let before = subst (HasTileBefore tiles.size tiles.numbers.items) (sym c.in-Some.ensures.1) (c.is_inner.ensures.0 c.if-is_inner.true) in
          absurd (run.before before.0 before.1 before.2),
    )

pub returns-else-is_inner : goal.returns-else-is_inner
returns-else-is_inner c =
    let tiles = c.args.self.now in
    let s = tiles.size in
    let xs = tiles.numbers.items in
    let found : IsTileRun s xs c.args.layer c.args.row c.args.first c.run_end.result = record {
      order = c.run_end.ensures.order;
      each = c.run_end.ensures.each;
      before = λ col next has. not_both c.is_inner.result (c.is_inner.ensures.1 (subst (HasTileBefore s xs) c.in-Some.ensures.1 (col, next, has))) c.if-is_inner.false;
      behind = c.run_end.ensures.behind;
    } in (
      λ same. subst (IsTileRun s xs c.args.layer c.args.row c.args.first) (eqb-true c.run_end.result c.args.last same) found,
      λ run. eq-eqb c.run_end.result c.args.last (one_end s xs c.args.layer c.args.row c.args.first c.run_end.result c.args.last found run),
    )
