-- The adjustments of single edges.
use Rattle.std.specs.Prelude.{ℕ, ◌-◌, ◌==◌, min, List, [], ◌∷◌, length, if◌then◌else◌, ℤ, Option, None, Some, Ok, option_map}
use Rattle.std.specs.Option.{option_or, option_zip}
use Rattle.grid_base.specs.declared.place.Place.{Place}
use Rattle.grid_base.specs.declared.axis.Axis.TheVariants.{X, Y}
use Rattle.grid_base.specs.Numbers.{distance, edge_along}
use Rattle.design_tokens.specs.declared.input_fault.InputFault.TheVariants.{AdjustmentPlace}
use Rattle.ispd_reader.specs.Limits.{max_adjustments}
use Rattle.design_tokens.specs.Parsing.{Reading, InputRead, ◌>>=◌, or_refuse, parts_at}
use Rattle.design_tokens.specs.Numbers.{number_at, capacity_at, count_at}
use Rattle.text_scan.specs.Reading.{tokens_left, past_blanks}
use Rattle.text_scan.specs.Within.{within}
use Rattle.ispd_reader.specs.Header.{Extent}
use Rattle.ispd_reader.specs.Nets.{vertex_at}

-- an adjustment: the number of the edge between its two tiles, none where they lie one above the other, and the new capacity
pub record Adjustment : Type 0 where
  pub edge : Option ℕ
  pub level : ℕ

-- the tile at these numbers, where it is inside the grid; layers count from 1 in the text
unfoldable pub place_in : Extent → ℤ → ℤ → ℤ → Option Place
place_in e col row layer = option_map (λ x. record { col = x.0.0; row = x.0.1; layer = x.1 - 1 })
    (option_zip (option_zip (within 0 (e.cols - 1) col) (within 0 (e.rows - 1) row)) (within 1 e.layers layer))

-- the number of the edge between two neighbouring tiles, none between two layers
unfoldable pub edge_between : Extent → Place → Place → Option ℕ
edge_between e a b =
    if a.layer == b.layer then
    (if a.row == b.row then Some ((edge_along X (vertex_at e (min a.col b.col) a.row a.layer)).0)
    else Some ((edge_along Y (vertex_at e a.col (min a.row b.row) a.layer)).0))
    else None

-- what lies between two tiles, where both are inside the grid and they differ by 1 in one of column, row and layer
abbrev pub step_between : Extent → Option Place → Option Place → Option (Option ℕ)
step_between e None b = None
step_between e (Some a) None = None
step_between e (Some a) (Some b) = if distance a b == 1 then Some (edge_between e a b) else None

-- a tile of an adjustment: column, row, layer, and the place of the layer's token
unfoldable pub tile_place_at : Extent → Reading → InputRead (Option Place × ℕ)
tile_place_at e r = do
  col ← number_at r
  row ← number_at col.1
  layer ← number_at row.1
  Ok ((place_in e col.0.value row.0.value layer.0.value, layer.0.at), layer.1)

-- an adjustment: two tiles and the level; adjustments count from 0
unfoldable pub adjustment_at : Extent → ℕ → Reading → InputRead Adjustment
adjustment_at e index r = do
  from ← tile_place_at e r
  to ← tile_place_at e from.1
  edge ← or_refuse (step_between e from.0.0 to.0.0) (AdjustmentPlace to.0.1 index)
  level ← capacity_at to.1
  Ok (record { edge = edge; level = level.0 }, level.1)

-- how many adjustments, and the adjustments; none where no token is left
unfoldable pub adjustments_at : Extent → Reading → InputRead (List Adjustment)
adjustments_at e r = if length (tokens_left r) == 0 then Ok ([], past_blanks r) else do
  count ← count_at max_adjustments (past_blanks r)
  parts_at (adjustment_at e) 0 count.0 count.1

-- the level of an adjustment, where this is the edge that it names
abbrev pub level_where : ℕ → Option ℕ → ℕ → Option ℕ
level_where e None level = None
level_where e (Some x) level = if x == e then Some level else None

-- the level of the last adjustment that names the edge
abbrev pub last_level : ℕ → List Adjustment → Option ℕ
last_level e [] = None
last_level e (a ∷ later) = option_or (last_level e later) (level_where e a.edge a.level)
