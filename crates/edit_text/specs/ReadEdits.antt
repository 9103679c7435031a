-- How a text of edits is read, token by token: `edits`, how many, and the edits.
use Rattle.std.specs.Prelude.{ℕ, if◌then◌else◌, List, [], ◌∷◌, codes, ℤ, pos, neg_ℤ, nat_abs, Result, Ok, Err}
use Rattle.std.specs.Str.{bytes_eq}
use Rattle.grid_graph.specs.Limits.{max_demand, max_id, max_number, max_pins}
use Rattle.text_scan.specs.Faults.{fault_place}
use Rattle.text_scan.specs.Parts.{◌>>=◌, refused_as, parts_at}
use Rattle.text_scan.specs.Reading.{Reading, whole, first_token, first_number, past_token, tokens_left}
use Rattle.text_scan.specs.Tokens.{Token}
use Rattle.edit_text.specs.declared.edit.Edit.{Edit}
use Rattle.edit_text.specs.declared.edit.Edit.TheVariants.{Drop, Add, Change}
use Rattle.edit_text.specs.declared.edit.Pin.{Pin}
use Rattle.edit_text.specs.EditReads.{EditRead}
use Rattle.edit_text.specs.Limits.{max_edits}

-- any token; where there is none, it is missing at the end of the text
abbrev pub edit_token_at : Reading → EditRead Token
edit_token_at r = do
  token ← first_token (λ end. end) r
  Ok (token, past_token r)

-- a token that is a number from lo to hi
abbrev pub edit_number_at : ℤ → ℤ → Reading → EditRead ℤ
edit_number_at lo hi r = do
  number ← refused_as fault_place (first_number lo hi r)
  Ok (number.value, past_token r)

-- a token that is a number from 0 to hi
unfoldable pub natural_at : ℕ → Reading → EditRead ℕ
natural_at hi r = do
  number ← edit_number_at (pos 0) (pos hi) r
  Ok (nat_abs number.0, number.1)

-- this token
unfoldable pub edit_mark_at : List ℕ → Reading → EditRead (Unit {0})
edit_mark_at mark r = do
  token ← edit_token_at r
  if bytes_eq token.0.bytes mark then Ok (tt, token.1) else Err token.0.place

-- a number of a pin
abbrev pub coordinate_at : Reading → EditRead ℤ
coordinate_at r = edit_number_at (neg_ℤ (pos max_number)) (pos max_number) r

-- a pin: x, y, layer
unfoldable pub pin_at : Reading → EditRead Pin
pin_at r = do
  x ← coordinate_at r
  y ← coordinate_at x.1
  layer ← coordinate_at y.1
  Ok (record { x = x.0; y = y.0; layer = layer.0 }, layer.1)

-- so many pins
abbrev pub pins_at : ℕ → Reading → EditRead (List Pin)
pins_at count r = parts_at (λ _. pin_at) 0 count r

-- how many pins, the width of the net, and the pins
unfoldable pub wired_at : Reading → EditRead (ℕ × List Pin)
wired_at r = do
  count ← natural_at max_pins r
  width ← natural_at max_demand count.1
  pins ← pins_at count.0 width.1
  Ok ((width.0, pins.0), pins.1)

-- behind `drop`: an id
unfoldable pub drop_at : Reading → EditRead Edit
drop_at r = do
  id ← natural_at max_id r
  Ok (Drop id.0, id.1)

-- behind `add`: a name, an id, how many pins, the width, and the pins
unfoldable pub add_at : Reading → EditRead Edit
add_at r = do
  name ← edit_token_at r
  id ← natural_at max_id name.1
  wired ← wired_at id.1
  Ok (Add name.0.bytes id.0 wired.0.0 wired.0.1, wired.1)

-- behind `change`: an id, how many pins, the width, and the pins
unfoldable pub change_at : Reading → EditRead Edit
change_at r = do
  id ← natural_at max_id r
  wired ← wired_at id.1
  Ok (Change id.0 wired.0.0 wired.0.1, wired.1)

-- an edit, by its first word
unfoldable pub edit_at : Reading → EditRead Edit
edit_at r = do
  word ← edit_token_at r
  if bytes_eq word.0.bytes (codes "drop") then drop_at word.1 else
      if bytes_eq word.0.bytes (codes "add") then add_at word.1 else
      if bytes_eq word.0.bytes (codes "change") then change_at word.1 else Err word.0.place

-- so many edits
abbrev pub edits_at : ℕ → Reading → EditRead (List Edit)
edits_at count r = parts_at (λ _. edit_at) 0 count r

-- no token is left
abbrev pub ends_at : List Token → Reading → EditRead (Unit {0})
ends_at [] behind = Ok (tt, behind)
ends_at (t ∷ ts) behind = Err t.place

abbrev pub end_at : Reading → EditRead (Unit {0})
end_at r = ends_at (tokens_left r) (past_token r)

-- the edits of a text, or the place of the first token that is none of this form, or the text's length where one is missing
abbrev pub edits_of : List ℕ → Result (List Edit) ℕ
edits_of text = do
  opened ← edit_mark_at (codes "edits") (whole text)
  count ← natural_at max_edits opened.1
  edits ← edits_at count.0 count.1
  ended ← end_at edits.1
  Ok edits.0
