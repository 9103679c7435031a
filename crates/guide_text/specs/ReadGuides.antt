-- How a text of guides is read, token by token: a name, an id, `(`, rectangles of five numbers each, and `)`.
use Rattle.std.specs.Prelude.{ℕ, Bool, ◌^◌, if◌then◌else◌, List, codes, ℤ, pos, neg_ℤ, nat_abs, is_none, Result, Ok, Err}
use Rattle.std.specs.Str.{bytes_eq}
use Rattle.grid_graph.specs.Limits.{max_id}
use Rattle.text_scan.specs.Faults.{fault_place}
use Rattle.text_scan.specs.Parts.{◌>>=◌, refused_as}
use Rattle.text_scan.specs.Reading.{Reading, whole, first_token, first_number, next_byte, is_next, past_blanks, past_token}
use Rattle.text_scan.specs.Tokens.{Token}
use Rattle.text_scan.specs.Until.{parts_until}
use Rattle.guide_text.specs.declared.guide.Guide.{Guide}
use Rattle.guide_text.specs.declared.rect.Rect.{Rect}
use Rattle.guide_text.specs.GuideReads.{GuideRead}

-- no number of a rectangle is further than this from zero
abbrev pub max_border : ℕ
max_border = 2 ^ 41

-- any token; where there is none, it is missing at the end of the text
abbrev pub guide_token_at : Reading → GuideRead Token
guide_token_at r = do
  token ← first_token (λ end. end) r
  Ok (token, past_token r)

-- a token that is a number from lo to hi
abbrev pub guide_number_at : ℤ → ℤ → Reading → GuideRead ℤ
guide_number_at lo hi r = do
  number ← refused_as fault_place (first_number lo hi r)
  Ok (number.value, past_token r)

-- this token
unfoldable pub guide_mark_at : List ℕ → Reading → GuideRead (Unit {0})
guide_mark_at mark r = do
  token ← guide_token_at r
  if bytes_eq token.0.bytes mark then Ok (tt, token.1) else Err token.0.place

-- a number of a rectangle
abbrev pub border_at : Reading → GuideRead ℤ
border_at r = guide_number_at (neg_ℤ (pos max_border)) (pos max_border) r

-- x and y of one corner, x and y of the other, and the layer
unfoldable pub rect_at : Reading → GuideRead Rect
rect_at r = do
  x1 ← border_at r
  y1 ← border_at x1.1
  x2 ← border_at y1.1
  y2 ← border_at x2.1
  layer ← border_at y2.1
  Ok (record { x1 = x1.0; y1 = y1.0; x2 = x2.0; y2 = y2.0; layer = layer.0 }, layer.1)

-- the rectangles before a token that begins with `)`
abbrev pub rects_at : Reading → GuideRead (List Rect)
rects_at r = parts_until (is_next 41) past_blanks rect_at r

-- a name, an id, `(`, the rectangles, and `)`
unfoldable pub guide_at : Reading → GuideRead Guide
guide_at r = do
  name ← guide_token_at r
  id ← guide_number_at (pos 0) (pos max_id) name.1
  opened ← guide_mark_at (codes "(") id.1
  rects ← rects_at opened.1
  closed ← guide_mark_at (codes ")") rects.1
  Ok (record { name = name.0.bytes; id = nat_abs id.0; rects = rects.0 }, closed.1)

-- only blanks are left
abbrev pub no_guide_follows : Reading → Bool
no_guide_follows r = is_none (next_byte r)

-- the guides of a text, or the place of the first token that is none of this form, or the text's length where one is missing
abbrev pub guides_in : List ℕ → Result (List Guide) ℕ
guides_in text = do
  guides ← parts_until no_guide_follows past_blanks guide_at (whole text)
  Ok guides.0
