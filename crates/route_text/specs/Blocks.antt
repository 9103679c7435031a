-- How a route text is read: as a list of blocks, each a name, an id, at most one further number, segments and a `!`.
use Rattle.std.specs.Prelude.{ℕ, Bool, false, ◌||◌, if◌then◌else◌, List, ℤ, pos, neg_ℤ, nat_abs, Option, Some, None, is_none, Result, Ok, Err}
use Rattle.std.specs.Char.{is_ascii_digit}
use Rattle.grid_graph.specs.Limits.{max_id, max_number}
use Rattle.text_scan.specs.Numbers.{is_sign}
use Rattle.text_scan.specs.Faults.{fault_place}
use Rattle.text_scan.specs.Parts.{◌>>=◌, refused_as}
use Rattle.text_scan.specs.Reading.{Reading, whole, first_token, first_number, next_place, next_byte, is_next, next_number, past_blanks, past_token, past_number, past_byte}
use Rattle.text_scan.specs.Until.{parts_until}
use Rattle.route_text.specs.declared.block.Block.{Block}
use Rattle.route_text.specs.declared.point.Point.{Point}
use Rattle.route_text.specs.declared.segment.Segment.{Segment}
use Rattle.route_text.specs.Reads.{RouteRead}

-- the byte b, after blanks
abbrev pub mark_at : ℕ → Reading → RouteRead (Unit {0})
mark_at b r = if is_next b r then Ok (tt, past_byte b r) else Err (next_place r)

-- a number of a point, which may end without a blank
abbrev pub coordinate_at : Reading → RouteRead ℤ
coordinate_at r = do
  number ← refused_as fault_place (next_number (neg_ℤ (pos max_number)) (pos max_number) r)
  Ok (number, past_number r)

-- a number from lo to hi that is a whole token
abbrev pub token_number_at : ℤ → ℤ → Reading → RouteRead ℤ
token_number_at lo hi r = do
  number ← refused_as fault_place (first_number lo hi r)
  Ok (number.value, past_token r)

-- `(`, x, `,`, y, `,`, layer, `)`
unfoldable pub point_at : Reading → RouteRead Point
point_at r = do
  mark ← mark_at 40 r
  x ← coordinate_at mark.1
  mark ← mark_at 44 x.1
  y ← coordinate_at mark.1
  mark ← mark_at 44 y.1
  layer ← coordinate_at mark.1
  mark ← mark_at 41 layer.1
  Ok (record { x = x.0; y = y.0; layer = layer.0 }, mark.1)

-- a point, `-`, a point
unfoldable pub segment_at : Reading → RouteRead Segment
segment_at r = do
  from ← point_at r
  mark ← mark_at 45 from.1
  to ← point_at mark.1
  Ok (record { from = from.0; to = to.0 }, to.1)

-- the segments up to a `!`, and the `!`
abbrev pub segments_at : Reading → RouteRead (List Segment)
segments_at r = parts_until (is_next 33) (past_byte 33) segment_at r

-- a number begins with a digit or a sign
abbrev pub begins_number : Option ℕ → Bool
begins_number None = false
begins_number (Some b) = is_ascii_digit b || is_sign b

-- the further number, where one follows: its value is ignored
unfoldable pub further_at : Reading → RouteRead (Unit {0})
further_at r = if begins_number (next_byte r) then (do
  number ← token_number_at (neg_ℤ (pos max_number)) (pos max_number) r
  Ok (tt, number.1)) else Ok (tt, past_blanks r)

-- a name: any token
abbrev pub block_name_at : Reading → RouteRead (List ℕ)
block_name_at r = do
  name ← first_token (λ end. end) r
  Ok (name.bytes, past_token r)

-- a name, an id, at most one further number, and the segments
unfoldable pub block_at : Reading → RouteRead Block
block_at r = do
  name ← block_name_at r
  id ← token_number_at (pos 0) (pos max_id) name.1
  further ← further_at id.1
  segments ← segments_at further.1
  Ok (record { name = name.0; id = nat_abs id.0; segments = segments.0 }, segments.1)

-- only blanks are left
abbrev pub is_at_end : Reading → Bool
is_at_end r = is_none (next_byte r)

-- the blocks up to the end of the text
abbrev pub blocks_at : Reading → RouteRead (List Block)
blocks_at r = parts_until is_at_end past_blanks block_at r

-- the blocks of a text, or the place at which the next part of it can't be read
abbrev pub blocks_of : List ℕ → Result (List Block) ℕ
blocks_of text = do
  blocks ← blocks_at (whole text)
  Ok blocks.0
