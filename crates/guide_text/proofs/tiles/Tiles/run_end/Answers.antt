use Rattle.std.proofs.Common.{◌≡◌, ◌≤◌, ℕ, ◌+◌, sym, ap, subst, ◌∙◌, get_or, arith}
use Rattle.std.proofs.lemmas.List.Elements.{Contains-get_or}
use Rattle.grid_base.specs.declared.place.Place.{Place}
use Rattle.grid_base.specs.Numbers.{cols, place_at, col_of, row_of, layer_of}
use Rattle.grid_base.proofs.Extents.{cols_within}
use Rattle.guide_text.specs.RouteTiles.{HasTile, HasTileBehind}
use Rattle.guide_text.proofs.Following.{next_listed, is_next_listed, place_behind}
use Rattle.guide_text.proofs.Runs.{one_further, one_alone, not_both, tile_at_place}
use Rattle.guide_text.proofs.tiles.Tiles.run_end.Goals.{Start, After-is_followed}
use Rattle.guide_text.proofs.tiles.Tiles.run_end.Goals as goal

-- the column that the run starts from
from_col : (c : Start) → c.args.from.col ≡ col_of c.args.self.now.size (get_or c.args.self.now.numbers.items c.args.at 0)
from_col c = ap (λ (p : Place). p.col) c.requires.from

pub loop-last-init : goal.loop-last-init
loop-last-init c =
    let tiles = c.args.self.now in
    let xs = tiles.numbers.items in
    let s = tiles.size in
    let v = get_or xs c.args.at 0 in
    let here = tile_at_place s xs v (tiles.vertices c.args.at 0 c.requires.within) (Contains-get_or xs c.args.at 0 c.requires.within) in
    let col = from_col c in
    record {
      within = c.requires.within;
      here = λ i. record { col = sym col i; row = row_of s v; layer = layer_of s v };
      order = omega (arith, col);
      each = subst (λ k. (j : ℕ) → col_of s v ≤ j → j ≤ k → HasTile s xs (layer_of s v) (row_of s v) j) (sym col) (one_alone (HasTile s xs (layer_of s v) (row_of s v)) (col_of s v) here);
    }

-- the tile behind the last one so far, where it is there
behind_last : (c : After-is_followed) → HasTileBehind c.args.self.now.size c.args.self.now.numbers.items (place_at c.args.self.now.size (get_or c.args.self.now.numbers.items c.loop-last.place 0))
    → HasTile c.args.self.now.size c.args.self.now.numbers.items (layer_of c.args.self.now.size (get_or c.args.self.now.numbers.items c.args.at 0)) (row_of c.args.self.now.size (get_or c.args.self.now.numbers.items c.args.at 0)) (c.loop-last.last + 1)
behind_last c behind = subst (HasTileBehind c.args.self.now.size c.args.self.now.numbers.items) c.loop-last.invariant.here behind

pub is_followed-requires : goal.is_followed-requires
is_followed-requires c = c.loop-last.invariant.within

pub overflow_add-last : goal.overflow_add-last
overflow_add-last c =
    let s = c.args.self.now.size in
    omega (arith, (behind_last (goal.at.overflow_add-last c).After-is_followed (c.is_followed.ensures.0 c.loop-last-test.true)).in_cols, cols_within (cols s) _ _ s.within)

pub overflow_add-place : goal.overflow_add-place
overflow_add-place c = omega (arith, c.loop-last.invariant.within, c.args.self.now.numbers.ok.0)

pub loop-last-smaller : goal.loop-last-smaller
loop-last-smaller c = omega (arith, c.loop-last.invariant.within)

pub loop-last-preserved : goal.loop-last-preserved
loop-last-preserved c =
    let tiles = c.args.self.now in
    let xs = tiles.numbers.items in
    let s = tiles.size in
    let v = get_or xs c.args.at 0 in
    let w = get_or xs c.loop-last.place 0 in
    let inv = c.loop-last.invariant in
    let behind = c.is_followed.ensures.0 c.loop-last-test.true in
    let next = next_listed xs c.loop-last.place tiles.rising inv.within (is_next_listed s xs w behind) in
    record {
      within = next.0;
      here = place_behind s xs w (get_or xs (c.loop-last.place + 1) 0) behind next.1 ∙ ap (λ (p : Place). record { col = p.col + 1; row = p.row; layer = p.layer }) inv.here;
      order = omega (arith, inv.order);
      each = one_further (HasTile s xs (layer_of s v) (row_of s v)) (col_of s v) c.loop-last.last inv.each (behind_last (goal.at.loop-last-preserved c).After-is_followed behind);
    }

pub returns-clause-order : goal.returns-clause-order
returns-clause-order c = omega (arith, from_col (goal.at.returns-clause-order c).Start, c.loop-last.invariant.order)

pub returns-clause-each : goal.returns-clause-each
returns-clause-each c =
    let tiles = c.args.self.now in
    subst (λ (p : Place). (col : ℕ) → p.col ≤ col → col ≤ c.loop-last.last → HasTile tiles.size tiles.numbers.items p.layer p.row col) (sym c.requires.from) c.loop-last.invariant.each

pub returns-clause-behind : goal.returns-clause-behind
returns-clause-behind c =
    let tiles = c.args.self.now in
    let xs = tiles.numbers.items in
    let none : ¬ HasTile tiles.size xs (layer_of tiles.size (get_or xs c.args.at 0)) (row_of tiles.size (get_or xs c.args.at 0)) (c.loop-last.last + 1) =
    λ has. not_both c.is_followed.result (c.is_followed.ensures.1 (subst (HasTileBehind tiles.size xs) (sym c.loop-last.invariant.here) has)) c.loop-last-test.false in
    subst (λ (p : Place). ¬ HasTile tiles.size xs p.layer p.row (c.loop-last.last + 1)) (sym c.requires.from) none
