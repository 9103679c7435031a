-- The three numbers of a pin, each with what it has to be.
use Rattle.std.specs.Prelude.{ℕ, ◌-◌, ℤ, Option, Ok}
use Rattle.text_scan.specs.Within.{within}
use Rattle.design_tokens.specs.declared.input_fault.InputFault.{InputFault}
use Rattle.design_tokens.specs.declared.input_fault.InputFault.TheVariants.{PinOutside, PinLayer}
use Rattle.design_tokens.specs.Parsing.{Reading, InputRead, ◌>>=◌, or_refuse}
use Rattle.design_tokens.specs.Numbers.{number_at}
use Rattle.ispd_reader.specs.Header.{Header}
use Rattle.ispd_reader.specs.Nets.{vertex_at, tile_along}

-- a number that has to be something
abbrev pub checked_number_at : {A : Type 0} → (ℤ → Option A) → (ℕ → InputFault) → Reading → InputRead A
checked_number_at what fault r = do
  number ← number_at r
  value ← or_refuse (what number.0.value) (fault number.0.at)
  Ok (value, number.1)

-- the x of a pin, as its column
abbrev pub pin_column_at : Header → ℕ → ℕ → Reading → InputRead ℕ
pin_column_at header id pin = checked_number_at (tile_along header.origin.0 header.tile.0 header.extent.cols) (λ at. PinOutside at id pin)

-- the y of a pin, as its row
abbrev pub pin_row_at : Header → ℕ → ℕ → Reading → InputRead ℕ
pin_row_at header id pin = checked_number_at (tile_along header.origin.1 header.tile.1 header.extent.rows) (λ at. PinOutside at id pin)

-- the layer of a pin, which counts from 1
abbrev pub pin_level_at : Header → ℕ → ℕ → Reading → InputRead ℕ
pin_level_at header id pin = checked_number_at (within 1 header.extent.layers) (λ at. PinLayer at id pin)

-- the vertex of a pin in this column and row
abbrev pub pin_behind_row : Header → ℕ → ℕ → InputRead ℕ → InputRead ℕ
pin_behind_row header col row level = do
  level ← level
  Ok (vertex_at header.extent col row (level.0 - 1), level.1)

-- the vertex of a pin in this column
abbrev pub pin_behind_column : Header → ℕ → ℕ → ℕ → InputRead ℕ → InputRead ℕ
pin_behind_column header id pin col row = do
  row ← row
  pin_behind_row header col row.0 (pin_level_at header id pin row.1)

-- the vertex of a pin
abbrev pub pin_behind_start : Header → ℕ → ℕ → InputRead ℕ → InputRead ℕ
pin_behind_start header id pin col = do
  col ← col
  pin_behind_column header id pin col.0 (pin_row_at header id pin col.1)
