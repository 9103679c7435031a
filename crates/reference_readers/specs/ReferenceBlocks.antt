-- What is left to be read of a route text of which an automaton has taken the front.
use Rattle.std.specs.Prelude.{◌≡◌, ℕ, ◌==◌, List, [], ◌∷◌, ◌++◌, if◌then◌else◌, ℤ, pos, nat_abs, Result, Ok, Err, codes}
use Rattle.grid_graph.specs.Limits.{max_id}
use Rattle.text_scan.specs.Parts.{◌>>=◌}
use Rattle.text_scan.specs.Reading.{Reading}
use Rattle.route_text.specs.declared.block.Block.{Block}
use Rattle.route_text.specs.declared.route_error.RouteError.{RouteError}
use Rattle.route_text.specs.declared.segment.Segment.{Segment}
use Rattle.route_text.specs.Blocks.{mark_at, coordinate_at, token_number_at, further_at, segments_at, blocks_at}
use Rattle.route_text.specs.Reads.{RouteRead, RefusesRoute}
use Rattle.reference_readers.specs.declared.taken.Part.{Part}
use Rattle.reference_readers.specs.declared.taken.Part.TheVariants.{Name, Id, Further, Segments}
use Rattle.reference_readers.specs.declared.taken.Taken.{Taken}

-- the text from this place on
abbrev pub at : List ℕ → ℕ → Reading
at text place = record { text = text; place = place }

-- the six numbers of a segment, with a new one behind them and without the first
abbrev pub with_next_number : Segment → ℤ → Segment
with_next_number s number = record {
  from = record { x = s.from.y; y = s.from.layer; layer = s.to.x };
  to = record { x = s.to.y; y = s.to.layer; layer = number };
}

-- a segment behind its first mark: marks, and `#` for a number
abbrev pub segment_row : List ℕ
segment_row = codes "#,#,#)-(#,#,#)"

-- the rest of a row of marks and numbers: each number comes behind those that were read before
abbrev pub row_at : List ℕ → Segment → Reading → RouteRead Segment
row_at [] s r = Ok (s, r)
row_at (mark ∷ row) s r = if mark == 35 then (do
  number ← coordinate_at r
  row_at row (with_next_number s number.0) number.1) else (do
    passed ← mark_at mark r
    row_at row s passed.1)

-- the block of this name and id: these segments, and those that are left
abbrev pub segments_left : List ℕ → ℕ → List Segment → Reading → RouteRead Block
segments_left name id before r = do
  more ← segments_at r
  Ok (record { name = name; id = id; segments = before ++ more.0 }, more.1)

-- these blocks, and those that are left
abbrev pub left_at_name : List Block → Reading → RouteRead (List Block)
left_at_name before r = do
  more ← blocks_at r
  Ok (before ++ more.0, more.1)

-- these blocks, one that is read, and those behind it
abbrev pub blocks_behind : List Block → RouteRead Block → RouteRead (List Block)
blocks_behind before read = do
  one ← read
  more ← blocks_at one.1
  Ok (before ++ one.0 ∷ more.0, more.1)

-- what is left where a block's id comes next
abbrev pub left_at_id : Taken → Reading → RouteRead (List Block)
left_at_id t r = blocks_behind t.blocks.items (do
  id ← token_number_at (pos 0) (pos max_id) r
  further ← further_at id.1
  segments_left t.name.items (nat_abs id.0) t.segments.items further.1)

-- where a further number or its segments come next
abbrev pub left_at_further : Taken → Reading → RouteRead (List Block)
left_at_further t r = blocks_behind t.blocks.items (do
  further ← further_at r
  segments_left t.name.items t.id t.segments.items further.1)

-- where its segments come next
abbrev pub left_at_segments : Taken → Reading → RouteRead (List Block)
left_at_segments t r = blocks_behind t.blocks.items (segments_left t.name.items t.id t.segments.items r)

-- where a segment was begun and this row is left of it
abbrev pub left_in_row : Taken → List ℕ → Reading → RouteRead (List Block)
left_in_row t row r = blocks_behind t.blocks.items (do
  segment ← row_at row t.segment r
  segments_left t.name.items t.id (t.segments.items ++ segment.0 ∷ []) segment.1)

-- where this row is left of a segment, or none was begun
abbrev pub left_among : List ℕ → Taken → Reading → RouteRead (List Block)
left_among [] t r = left_at_segments t r
left_among (mark ∷ row) t r = left_in_row t (mark ∷ row) r

-- where this part comes next
abbrev pub left_at : Part → Taken → Reading → RouteRead (List Block)
left_at Name t r = left_at_name t.blocks.items r
left_at Id t r = left_at_id t r
left_at Further t r = left_at_further t r
left_at (Segments row) t r = left_among row.now t r

-- all blocks of the text, where this was taken of it and this is left
abbrev pub text_left : Taken → Reading → RouteRead (List Block)
text_left t r = left_at t.part t r

-- the block that was taken
abbrev pub block_of : Taken → Block
block_of t = record { name = t.name.items; id = t.id; segments = t.segments.items }

-- some of the text was taken, up to a place, and all of it still reads as before; or it can't be read
abbrev pub ReadsAsBefore : RouteRead (List Block) → List ℕ → Taken → Result ℕ RouteError → Type 0
ReadsAsBefore before text new (Ok end) = text_left new (at text end) ≡ before
ReadsAsBefore before text new (Err e) = RefusesRoute e before
