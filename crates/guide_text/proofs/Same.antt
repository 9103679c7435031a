-- Rectangles of two lists of the same tiles.
use Rattle.std.proofs.Common.{ℕ, ◌+◌, List, Contains}
use Rattle.std.specs.Prelude.{◌↔◌}
use Rattle.grid_base.specs.declared.size.Size.{Size}
use Rattle.guide_text.specs.declared.tile_rect.TileRect.{TileRect}
use Rattle.guide_text.specs.RouteTiles.{HasTile}
use Rattle.guide_text.specs.TileRects.{IsTileRun, IsTileRect, AreTileRects}

-- what one list has the other has
abbrev pub Within : List ℕ → List ℕ → Type 0
Within xs ys = (v : ℕ) → Contains xs v → Contains ys v

pub tile_within : (s : Size) (xs ys : List ℕ) → Within xs ys → (layer row col : ℕ) → HasTile s xs layer row col → HasTile s ys layer row col
tile_within s xs ys to layer row col has = record { in_layers = has.in_layers; in_rows = has.in_rows; in_cols = has.in_cols; listed = to _ has.listed }

run_of : (s : Size) (xs ys : List ℕ) → Within xs ys → Within ys xs → (layer row first last : ℕ) → IsTileRun s xs layer row first last → IsTileRun s ys layer row first last
run_of s xs ys to from layer row first last run = record {
  order = run.order;
  each = λ col low high. tile_within s xs ys to layer row col (run.each col low high);
  before = λ col next has. run.before col next (tile_within s ys xs from layer row col has);
  behind = λ has. run.behind (tile_within s ys xs from layer row (last + 1) has);
}

rect_of_same : (s : Size) (xs ys : List ℕ) → Within xs ys → Within ys xs → (rect : TileRect) → IsTileRect s xs rect → IsTileRect s ys rect
rect_of_same s xs ys to from rect is = record {
  order = is.order;
  each = λ row low high. run_of s xs ys to from rect.layer row rect.first_col rect.last_col (is.each row low high);
  below = λ row next run. is.below row next (run_of s ys xs from to rect.layer row rect.first_col rect.last_col run);
  above = λ run. is.above (run_of s ys xs from to rect.layer (rect.last_row + 1) rect.first_col rect.last_col run);
}

pub rects_of_same : (s : Size) (xs ys : List ℕ) → ((v : ℕ) → Contains xs v ↔ Contains ys v) → (rects : List TileRect) → AreTileRects s xs rects → AreTileRects s ys rects
rects_of_same s xs ys same rects are =
    let to : Within xs ys = λ v. (same v).0 in
    let from : Within ys xs = λ v. (same v).1 in
    record {
      rising = are.rising;
      only = λ k d below. rect_of_same s xs ys to from _ (are.only k d below);
      every = λ rect is. are.every rect (rect_of_same s ys xs from to rect is);
    }
