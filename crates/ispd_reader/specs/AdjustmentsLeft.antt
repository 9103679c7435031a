-- What a reader of the adjustments still has to read.
use Rattle.std.specs.Prelude.{◌≡◌, ℕ, ◌+◌, ◌≤◌, List, [], ◌∷◌, ◌++◌, Option, Some, None, option_map, Result, Ok, Err, IfSome}
use Rattle.grid_base.specs.declared.piece.Piece.{Piece}
use Rattle.grid_base.specs.declared.place.Place.{Place}
use Rattle.grid_base.specs.declared.size.Size.{Size}
use Rattle.grid_base.specs.Numbers.{IsInside, IsPiece}
use Rattle.grid_graph.specs.declared.grid.Grid.{Grid}
use Rattle.grid_graph.specs.Grids.{size_of}
use Rattle.text_scan.specs.declared.number.Number.{Number}
use Rattle.text_scan.specs.Reading.{past_token}
use Rattle.ispd_reader.specs.declared.adjustment.Adjustment.{Adjustment as AdjustmentOfOne}
use Rattle.ispd_reader.specs.declared.adjustments_reader.AdjustmentsReader.{AdjustmentsReader}
use Rattle.ispd_reader.specs.declared.adjustments_reader.AdjustmentsReader.TheVariants as readers
use Rattle.ispd_reader.specs.declared.adjustment_stage.AdjustmentStage.{AdjustmentStage}
use Rattle.ispd_reader.specs.declared.adjustment_stage.AdjustmentStage.TheVariants as stages
use Rattle.ispd_reader.specs.declared.tile_stage.TileStage.{TileStage}
use Rattle.ispd_reader.specs.declared.tile_stage.TileStage.TheVariants as tiles
use Rattle.design_tokens.specs.declared.cut_token.CutToken.{CutToken}
use Rattle.design_tokens.specs.declared.input_error.InputError.{InputError}
use Rattle.design_tokens.specs.declared.input_fault.InputFault.{InputFault}
use Rattle.design_tokens.specs.declared.input_fault.InputFault.TheVariants.{AdjustmentPlace}
use Rattle.ispd_reader.specs.Limits.{max_adjustments}
use Rattle.design_tokens.specs.Parsing.{Reading, InputRead, ◌>>=◌, or_refuse, parts_at}
use Rattle.design_tokens.specs.Numbers.{number_at, capacity_at}
use Rattle.ispd_reader.specs.Header.{Extent}
use Rattle.ispd_reader.specs.Views.{extent_of_size}
use Rattle.ispd_reader.specs.Adjustments.{Adjustment, place_in, step_between, adjustment_at, adjustments_at}
use Rattle.ispd_reader.specs.Adjusted.{IsAdjusted, adjustment_of}
use Rattle.design_tokens.specs.Steps.{IsNext, LeavesNext, RefusesNext}

-- a tile, where its next number reads as this
abbrev pub tile_number : Extent → TileStage → InputRead Number → InputRead (Option Place × ℕ)
tile_number e tiles.Column number = do
  col ← number
  row ← number_at col.1
  layer ← number_at row.1
  Ok ((place_in e col.0.value row.0.value layer.0.value, layer.0.at), layer.1)
tile_number e (tiles.Row col) number = do
  row ← number
  layer ← number_at row.1
  Ok ((place_in e col.value row.0.value layer.0.value, layer.0.at), layer.1)
tile_number e (tiles.Layer col row) number = do
  layer ← number
  Ok ((place_in e col.value row.value layer.0.value, layer.0.at), layer.1)

-- what is left of a tile, and the tile then
unfoldable pub tile_left : Extent → TileStage → Reading → InputRead (Option Place × ℕ)
tile_left e stage r = tile_number e stage (number_at r)

-- an adjustment with this edge, where its level reads as this
abbrev pub with_level : Option ℕ → InputRead ℕ → InputRead Adjustment
with_level edge level = do
  level ← level
  Ok (record { edge = edge; level = level.0 }, level.1)

-- an adjustment from this tile, where its second tile reads as this
abbrev pub with_tile : Extent → ℕ → Option Place → InputRead (Option Place × ℕ) → InputRead Adjustment
with_tile e index from to = do
  to ← to
  edge ← or_refuse (step_between e from to.0.0) (AdjustmentPlace to.0.1 index)
  with_level edge (capacity_at to.1)

-- an adjustment, where its first tile reads as this
abbrev pub with_tiles : Extent → ℕ → InputRead (Option Place × ℕ) → InputRead Adjustment
with_tiles e index from = do
  from ← from
  with_tile e index from.0.0 (tile_left e tiles.Column from.1)

-- what is left of an adjustment with this index, and the adjustment then
unfoldable pub adjustment_left : Extent → ℕ → AdjustmentStage → Reading → InputRead Adjustment
adjustment_left e index (stages.From tile) r = with_tiles e index (tile_left e tile r)
adjustment_left e index (stages.To from tile) r = with_tile e index from (tile_left e tile r)
adjustment_left e index (stages.Level edge) r = with_level (option_map (λ e. e.0) edge) (capacity_at r)

-- what was read, without the text that is left behind it
abbrev pub alone : {A : Type 0} → InputRead A → Result A InputFault
alone read = read >>= (λ x. Ok x.0)

-- this adjustment, and then those that are owed
abbrev pub and_owed : Extent → ℕ → ℕ → InputRead Adjustment → Result (List Adjustment) InputFault
and_owed e index owed one = do
  one ← one
  more ← parts_at (adjustment_at e) (index + 1) owed one.1
  Ok (one.0 ∷ more.0)

-- what is left of them, without those that were made; behind the last one all is ignored
unfoldable pub adjustments_left : Extent → AdjustmentsReader → Reading → Result (List Adjustment) InputFault
adjustments_left e readers.Count r = alone (adjustments_at e r)
adjustments_left e (readers.Adjustment stage index owed) r = and_owed e index owed (adjustment_left e index stage r)
adjustments_left e readers.Done r = Ok []

-- what a stage holds fits a grid of this size
abbrev pub FitsStage : Size → AdjustmentStage → Type 0
FitsStage size (stages.From tile) = Unit {0}
FitsStage size (stages.To from tile) = IfSome from (λ place. IsInside size place)
FitsStage size (stages.Level edge) = IfSome edge (λ e. IsPiece size (Piece.Edge e))

-- what a reader holds fits a grid of this size, and no index is beyond the limit
abbrev pub FitsSize : Size → AdjustmentsReader → Type 0
FitsSize size readers.Count = Unit {0}
FitsSize size (readers.Adjustment stage index owed) = FitsStage size stage × (index + 1 + owed ≤ max_adjustments)
FitsSize size readers.Done = Unit {0}

-- the stage behind the token, or the token is refused
abbrev pub BecomesNext : {Stage A : Type 0} → CutToken → Result Stage InputError → (Reading → Result A InputFault) → (Stage → Reading → Result A InputFault) → Type 0
BecomesNext c (Ok stage) old left = LeavesNext c old (left stage)
BecomesNext c (Err e) old left = RefusesNext c e old

-- the adjustment that a token ended, if any
abbrev pub ended : Option AdjustmentOfOne → List Adjustment
ended None = []
ended (Some a) = adjustment_of a ∷ []

-- these, and then more
abbrev pub and_more : List Adjustment → Result (List Adjustment) InputFault → Result (List Adjustment) InputFault
and_more made left = left >>= (λ more. Ok (made ++ more))

-- the reader has taken the token, and this ended with it; or the token is refused
abbrev pub MakesNext : CutToken → Result (Option AdjustmentOfOne) InputError → (Reading → Result (List Adjustment) InputFault) → (Reading → Result (List Adjustment) InputFault) → Type 0
MakesNext c (Ok made) old new = (r : Reading) → IsNext c r → old r ≡ and_more (ended made) (new (past_token r))
MakesNext c (Err e) old new = RefusesNext c e old

-- the reader has taken the token, and the grid is adjusted by what it made with it; or the token is refused
abbrev pub AdjustsNext : CutToken → Result (Unit {0}) InputError → Grid → Grid → AdjustmentsReader → AdjustmentsReader → Type 0
AdjustsNext c (Ok done) g h old new = (made : List Adjustment)
    × ((r : Reading) → IsNext c r → adjustments_left (extent_of_size (size_of g)) old r ≡ and_more made (adjustments_left (extent_of_size (size_of g)) new (past_token r)))
    × IsAdjusted g h made
AdjustsNext c (Err e) g h old new = RefusesNext c e (adjustments_left (extent_of_size (size_of g)) old)
