-- The nets and their pins.
use Rattle.std.specs.Prelude.{ℕ, zero, suc, Bool, false, ◌+◌, ◌-◌, ◌*◌, ◌==◌, ◌||◌, max, List, [], ◌∷◌, fold, if◌then◌else◌, ℤ, Option, Ok, Err}
use Rattle.grid_graph.specs.Limits.{max_demand, max_id, max_nets, max_pins}
pub use Rattle.grid_graph.specs.Terms.{without_repeats}
use Rattle.grid_graph.specs.Tiles.{tile_index}
use Rattle.design_tokens.specs.declared.input_fault.InputFault.TheVariants.{Range, WidthLimit, DuplicateId, PinOutside, PinLayer}
use Rattle.design_tokens.specs.declared.wanted.Wanted.TheVariants as wanted
use Rattle.design_tokens.specs.Parsing.{Reading, InputRead, ◌>>=◌, or_refuse, parts_at}
use Rattle.design_tokens.specs.Numbers.{word_at, name_at, number_at, number_within, count_at}
use Rattle.text_scan.specs.Within.{within}
use Rattle.ispd_reader.specs.Header.{Extent, Header}

-- a net; its terminals are vertices by number
pub record Net : Type 0 where
  pub id : ℕ
  pub name : List ℕ
  pub width : ℕ
  pub terminals : List ℕ

-- the vertex at this column, row and layer
abbrev pub vertex_at : Extent → ℕ → ℕ → ℕ → ℕ
vertex_at e col row layer = (layer * e.rows + row) * e.cols + col

-- the greatest of the layers' spacings
abbrev pub widest_spacing : List ℕ → ℕ
widest_spacing spacings = fold max 0 spacings

-- the id of a net: a number of 32 bits that is not taken
unfoldable pub id_at : (ℕ → Bool) → Reading → InputRead ℕ
id_at taken r = do
  number ← number_at r
  id ← or_refuse (within 0 max_id number.0.value) (Range number.0.at)
  if taken id then Err (DuplicateId number.0.at id) else Ok (id, number.1)

-- the width of a net: with the greatest spacing it is at most the greatest demand
abbrev pub net_width_at : Header → Reading → InputRead ℕ
net_width_at header = number_within 0 (max_demand - widest_spacing header.spacings) WidthLimit

-- the tile of a position along one axis, where it is inside the grid: the upper border belongs to the last tile
unfoldable pub tile_along : ℤ → ℤ → ℕ → ℤ → Option ℕ
tile_along origin tile count position = tile_index origin tile count position

-- a pin of a net, as the vertex of its tile: x, y, layer
unfoldable pub pin_at : Header → ℕ → ℕ → Reading → InputRead ℕ
pin_at header id pin r = do
  x ← number_at r
  col ← or_refuse (tile_along header.origin.0 header.tile.0 header.extent.cols x.0.value) (PinOutside x.0.at id pin)
  y ← number_at x.1
  row ← or_refuse (tile_along header.origin.1 header.tile.1 header.extent.rows y.0.value) (PinOutside y.0.at id pin)
  layer ← number_at y.1
  level ← or_refuse (within 1 header.extent.layers layer.0.value) (PinLayer layer.0.at id pin)
  Ok (vertex_at header.extent col row (level - 1), layer.1)

-- so many pins, which count from 0 within their net
unfoldable pub pins_at : Header → ℕ → ℕ → Reading → InputRead (List ℕ)
pins_at header id count r = parts_at (pin_at header id) 0 count r

-- a net, where these ids are taken and there are so many pins, and how many pins there are with it
unfoldable pub net_at : Header → (ℕ → Bool) → ℕ → Reading → InputRead (Net × ℕ)
net_at header taken pins r = do
  name ← name_at r
  id ← id_at taken name.1
  count ← count_at (max_pins - pins) id.1
  width ← net_width_at header count.1
  places ← pins_at header id.0 count.0 width.1
  Ok ((record { id = id.0; name = name.0; width = width.0; terminals = without_repeats places.0 }, pins + count.0), places.1)

-- so many nets, where these ids are taken and there are so many pins
unfoldable pub more_nets_at : Header → (ℕ → Bool) → ℕ → ℕ → Reading → InputRead (List Net)
more_nets_at header taken pins zero r = Ok ([], r)
more_nets_at header taken pins (suc n) r = do
  net ← net_at header taken pins r
  more ← more_nets_at header (λ id. id == net.0.0.id || taken id) net.0.1 n net.1
  Ok (net.0.0 ∷ more.0, more.1)

-- `num`, `net`, how many nets, and the nets
unfoldable pub nets_at : Header → Reading → InputRead (List Net)
nets_at header r = do
  word ← word_at wanted.Num r
  word ← word_at wanted.Net word.1
  count ← count_at max_nets word.1
  more_nets_at header (λ _. false) 0 count.0 count.1
