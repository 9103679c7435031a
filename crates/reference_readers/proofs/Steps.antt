-- What each step of the automaton keeps.
use Rattle.std.proofs.Common.{◌≡◌, ℕ, ◌+◌, ◌<◌, ◌≤◌, ◌==◌, true, false, List, [], ◌∷◌, ◌++◌, length, drop, get_or, slice_range}
use Rattle.std.proofs.Common.{Some, None, Result, Ok, Err, ℤ, pos, neg_ℤ, nat_abs, refl, sym, ap, ◌∙◌, ⊎_elim, arith, add-zero}
use Rattle.std.proofs.Common.{append_assoc}
use Rattle.std.specs.Char.{is_ascii_digit}
use Rattle.std.specs.List.{prefix_len, position_or_len}
use Rattle.std.specs.Prelude.{is_none, slice_get}
use Rattle.std.proofs.lemmas.Bool.{cases_Bool}
use Rattle.std.proofs.lemmas.List.{append-nil, drop_all}
use Rattle.grid_graph.specs.Limits.{max_id, max_number}
use Rattle.text_scan.specs.Numbers.{sign_len, unsigned, front_number}
use Rattle.text_scan.specs.Parts.{◌>>=◌, refused_as}
use Rattle.text_scan.specs.Faults.{fault_place}
use Rattle.text_scan.specs.Reading.{Reading, past_blanks, next_place, next_byte, is_next, past_byte, past_number}
use Rattle.text_scan.specs.Tokens.{is_blank}
use Rattle.text_scan.proofs.Bounds.{parts-none, parts-one}
use Rattle.route_text.specs.declared.block.Block.{Block}
use Rattle.route_text.specs.declared.point.Point.{Point}
use Rattle.route_text.specs.declared.segment.Segment.{Segment}
use Rattle.route_text.specs.Blocks.{mark_at, coordinate_at, token_number_at, segment_at, segments_at, begins_number, further_at}
use Rattle.route_text.specs.Blocks.{block_at, is_at_end, blocks_at, blocks_of}
use Rattle.route_text.specs.Reads.{RouteRead}
use Rattle.route_text.proofs.Takes.{next_segment_takes, next_block_takes}
use Rattle.reference_readers.specs.declared.taken.Part.{Part}
use Rattle.reference_readers.specs.declared.taken.Part.TheVariants.{Name, Id, Further, Segments}
use Rattle.reference_readers.specs.declared.taken.Taken.{Taken}
use Rattle.reference_readers.specs.ReferenceBlocks.{at, with_next_number, segment_row, row_at, segments_left, left_at_name}
use Rattle.reference_readers.specs.ReferenceBlocks.{blocks_behind, left_at_id, left_at_further, left_at_segments, left_in_row}
use Rattle.reference_readers.specs.ReferenceBlocks.{left_among, left_at, block_of}
use Rattle.reference_readers.specs.ReferenceNumbers.{word_as_number}
use Rattle.reference_readers.proofs.Automaton.{then-same, then-then, row_is_segment, place_here, byte_at, mark_taken, mark_refused}
use Rattle.reference_readers.proofs.Automaton.{end_taken, one_more_segment, no_further, leads, token, number_taken, number_refused}
use Rattle.reference_readers.proofs.Automaton.{further_taken, further_refused, coordinate_taken, coordinate_refused}

-- a segment, and those behind it
abbrev one_segment : RouteRead Segment → RouteRead (List Segment)
one_segment read = read >>= λ (one : Segment × Reading). segments_at one.1 >>= λ (more : List Segment × Reading). Ok
    (one.0 ∷ more.0, more.1)

-- a block, and those behind it
abbrev one_block : RouteRead Block → RouteRead (List Block)
one_block read = read >>= λ (one : Block × Reading). blocks_at one.1 >>= λ (more : List Block × Reading). Ok
    (one.0 ∷ more.0, more.1)

-- segments behind others, as a block
abbrev as_block : List ℕ → ℕ → List Segment → RouteRead (List Segment) → RouteRead Block
as_block name id before read = read >>= λ (more : List Segment × Reading). Ok
    (record { name = name; id = id; segments = before ++ more.0 }, more.1)

-- blocks behind others
abbrev as_blocks : List Block → RouteRead (List Block) → RouteRead (List Block)
as_blocks before read = read >>= λ (more : List Block × Reading). Ok (before ++ more.0, more.1)

-- one before others
abbrev put_first : {A : Type 0} → A → RouteRead (List A) → RouteRead (List A)
put_first {A} x read = read >>= λ (more : List A × Reading). Ok (x ∷ more.0, more.1)

-- one more block and those behind it, as blocks that are left
blocks_from_one : (before : List Block) (read : RouteRead Block) → blocks_behind before read ≡ as_blocks before (one_block read)
blocks_from_one before read = sym (then-then read _ _ _ (λ one. behind one.0 (blocks_at one.1)))
  where
    behind : (x : Block) (more : RouteRead (List Block))
        → as_blocks before (put_first x more) ≡ (more >>= λ (m : List Block × Reading). Ok (before ++ x ∷ m.0, m.1))
    behind x (Ok m) = refl
    behind x (Err refused) = refl

-- one more segment and those behind it, as segments that are left
segments_from_one : (name : List ℕ) (id : ℕ) (before : List Segment) (read : RouteRead Segment) →
    (read >>= λ (one : Segment × Reading). segments_left name id (before ++ one.0 ∷ []) one.1)
    ≡ as_block name id before (one_segment read)
segments_from_one name id before read = sym (then-then read _ _ _ (λ one. behind one.0 (segments_at one.1)))
  where
    behind : (x : Segment) (more : RouteRead (List Segment))
        → as_block name id before (put_first x more) ≡ as_block name id (before ++ x ∷ []) more
    behind x (Ok m) = ap (λ (segments : List Segment). Ok (record { name = name; id = id; segments = segments }, m.1))
        (sym (append_assoc before (x ∷ []) m.0))
    behind x (Err refused) = refl

module _ (text : List ℕ) (place : ℕ) (inside : place < length text) (other : is_blank (get_or text place 0) ≡ false) where
  one_more_block : blocks_at (at text place) ≡ one_block (block_at (at text place))
  one_more_block = parts-one is_at_end past_blanks block_at next_block_takes (at text place)
      (ap is_none (byte_at text place inside other)) ∙ rw (place_here text place inside other) refl

  -- a first mark of a segment
  pub segment_begun : (t : Taken) → (get_or text place 0 == 40) ≡ true → (get_or text place 0 == 33) ≡ false
      → left_in_row t segment_row (at text (place + 1)) ≡ left_at_segments t (at text place)
  segment_begun t begins goes_on =
      let one : segment_at (at text place) ≡ row_at segment_row t.segment (at text (place + 1)) =
      row_is_segment t.segment (at text place) ∙ ap
      (λ (read : RouteRead (Unit {0})). read >>= λ (passed : Unit {0} × Reading). row_at segment_row t.segment passed.1)
      (mark_taken text place inside other 40 begins) in
      let all = one_more_segment text place inside other goes_on ∙ ap one_segment one in
      ap (blocks_behind t.blocks.items) (segments_from_one t.name.items t.id t.segments.items
      (row_at segment_row t.segment (at text (place + 1)))
      ∙ sym (ap (as_block t.name.items t.id t.segments.items) all))

  -- the end of the block
  pub block_ended : (t : Taken) → (get_or text place 0 == 33) ≡ true
      → left_at_name (t.blocks.items ++ block_of t ∷ []) (at text (place + 1)) ≡ left_at_segments t (at text place)
  block_ended t ends =
      let last : RouteRead (List Segment) → RouteRead (List Block) =
      λ read. blocks_behind t.blocks.items (as_block t.name.items t.id t.segments.items read) in
      then-same (blocks_at (at text (place + 1))) _ _ (λ more.
      ap (λ (blocks : List Block). Ok (blocks, more.1)) (append_assoc t.blocks.items (block_of t ∷ []) more.0
      ∙ ap (λ (segments : List Segment). t.blocks.items
      ++ record { name = t.name.items; id = t.id; segments = segments } ∷ more.0) (sym (append-nil t.segments.items))))
      ∙ sym (ap last (end_taken text place inside other ends))

  -- any other byte between segments
  pub nothing_between : (t : Taken) → (get_or text place 0 == 40) ≡ false → (get_or text place 0 == 33) ≡ false
      → left_at_segments t (at text place) ≡ Err place
  nothing_between t begins goes_on =
      let one : segment_at (at text place) ≡ Err place =
      row_is_segment t.segment (at text place) ∙ ap
      (λ (read : RouteRead (Unit {0})). read >>= λ (passed : Unit {0} × Reading). row_at segment_row t.segment passed.1)
      (mark_refused text place inside other 40 begins) in
      let all = one_more_segment text place inside other goes_on ∙ ap one_segment one in
      ap (λ (read : RouteRead (List Segment)). blocks_behind t.blocks.items (as_block t.name.items t.id t.segments.items read))
      all

  -- no further number
  pub further_passed : (t : Taken) → begins_number (Some (get_or text place 0)) ≡ false
      → left_at_segments t (at text place) ≡ left_at_further t (at text place)
  further_passed t none = sym (ap (λ (read : RouteRead (Unit {0})). blocks_behind t.blocks.items
      (read >>= λ (further : Unit {0} × Reading). segments_left t.name.items t.id t.segments.items further.1))
      (no_further text place inside other none))

  module _ (end : ℕ) (ends : end ≡ place + position_or_len is_blank (drop place text)) (within : end ≤ length text) where
    -- a name
    pub name_step : (before : List Block) (name : List ℕ) (segments : List Segment) → name ≡ slice_range text place end
        → segments ≡ [] →
        blocks_behind before (token_number_at (pos 0) (pos max_id)
        (at text end) >>= λ (id : ℤ × Reading). further_at id.1 >>= λ (further : Unit {0} × Reading). segments_left name
        (nat_abs id.0) segments further.1) ≡ left_at_name before (at text place)
    unfolding block_at
    name_step before name segments is empty =
        let rest : RouteRead Block = token_number_at (pos 0) (pos max_id)
        (at text end) >>= λ (id : ℤ × Reading). further_at id.1 >>= λ (further : Unit {0} × Reading). segments_left
        (slice_range text place end) (nat_abs id.0) [] further.1 in
        let block : block_at (at text place) ≡ rest =
        rw (leads text place inside other end ends within, token text place inside other end ends within) refl in
        rw (is, empty) (blocks_from_one before rest ∙ sym (ap (as_blocks before) (one_more_block ∙ ap one_block block)))

    -- an id
    pub id_step : (t : Taken) (z : ℤ) → word_as_number (pos 0) (pos max_id) (slice_range text place end) ≡ Some z →
        blocks_behind t.blocks.items (further_at (at text end) >>= λ (further : Unit {0} × Reading). segments_left t.name.items
        (nat_abs z) t.segments.items further.1) ≡ left_at_id t (at text place)
    id_step t z is = sym (ap (λ (read : RouteRead ℤ). blocks_behind t.blocks.items
        (read >>= λ (id : ℤ × Reading). further_at id.1 >>= λ (further : Unit {0} × Reading). segments_left t.name.items
        (nat_abs id.0) t.segments.items further.1))
        (number_taken text place inside other end ends within (pos 0) (pos max_id) z is))

    pub no_id : (t : Taken) → word_as_number (pos 0) (pos max_id) (slice_range text place end) ≡ None
        → left_at_id t (at text place) ≡ Err place
    no_id t none = ap (λ (read : RouteRead ℤ). blocks_behind t.blocks.items
        (read >>= λ (id : ℤ × Reading). further_at id.1 >>= λ (further : Unit {0} × Reading). segments_left t.name.items
        (nat_abs id.0) t.segments.items further.1))
        (number_refused text place inside other end ends within (pos 0) (pos max_id) none)

    -- a further number
    pub further_step : (t : Taken) (z : ℤ) → begins_number (Some (get_or text place 0)) ≡ true
        → word_as_number (neg_ℤ (pos max_number)) (pos max_number) (slice_range text place end) ≡ Some z
        → left_at_segments t (at text end) ≡ left_at_further t (at text place)
    further_step t z begins is = sym (ap (λ (read : RouteRead (Unit {0})). blocks_behind t.blocks.items
        (read >>= λ (further : Unit {0} × Reading). segments_left t.name.items t.id t.segments.items further.1))
        (further_taken text place inside other end ends within z begins is))

    pub no_further_number : (t : Taken) → begins_number (Some (get_or text place 0)) ≡ true
        → word_as_number (neg_ℤ (pos max_number)) (pos max_number) (slice_range text place end) ≡ None
        → left_at_further t (at text place) ≡ Err place
    no_further_number t begins none = ap (λ (read : RouteRead (Unit {0})). blocks_behind t.blocks.items
        (read >>= λ (further : Unit {0} × Reading). segments_left t.name.items t.id t.segments.items further.1))
        (further_refused text place inside other end ends within begins none)

  module _ (end : ℕ) (ends : end ≡ place + (sign_len (drop place text)
      + prefix_len is_ascii_digit (unsigned (drop place text)))) (within : end ≤ length text) (t : Taken) (row : List ℕ) where
    -- a number of a segment
    pub coordinate_step : (z : ℤ) → word_as_number (neg_ℤ (pos max_number)) (pos max_number) (slice_range text place end)
        ≡ Some z →
        blocks_behind t.blocks.items (row_at row (with_next_number t.segment z)
        (at text end) >>= λ (one : Segment × Reading). segments_left t.name.items t.id
        (t.segments.items ++ one.0 ∷ []) one.1) ≡ left_in_row t (35 ∷ row) (at text place)
    coordinate_step z is = sym (ap (λ (read : RouteRead ℤ). blocks_behind t.blocks.items
        ((read >>= λ (number : ℤ × Reading). row_at row (with_next_number t.segment number.0) number.1) >>=
        λ (one : Segment × Reading). segments_left t.name.items t.id (t.segments.items ++ one.0 ∷ []) one.1))
        (coordinate_taken text place inside other end ends within z is))

    pub no_coordinate : word_as_number (neg_ℤ (pos max_number)) (pos max_number) (slice_range text place end) ≡ None
        → left_in_row t (35 ∷ row) (at text place) ≡ Err place
    no_coordinate none = ap (λ (read : RouteRead ℤ). blocks_behind t.blocks.items
        ((read >>= λ (number : ℤ × Reading). row_at row (with_next_number t.segment number.0) number.1) >>=
        λ (one : Segment × Reading). segments_left t.name.items t.id (t.segments.items ++ one.0 ∷ []) one.1))
        (coordinate_refused text place inside other end ends within none)

-- ---- the end of the text

module _ (text : List ℕ) (place : ℕ) (end : place ≡ length text) where
  nothing_left : (n : ℕ) → drop (place + n) text ≡ []
  nothing_left n = drop_all (place + n) text (omega arith)

  place_at_end : next_place (at text place) ≡ place
  place_at_end = ap (λ (bytes : List ℕ). place + prefix_len is_blank bytes) (drop_all place text (omega arith)) ∙ add-zero place

  no_byte_at_end : next_byte (at text place) ≡ None
  no_byte_at_end = ap (λ (bytes : List ℕ). slice_get bytes 0) (nothing_left (prefix_len is_blank (drop place text)))

  no_mark : (mark : ℕ) → mark_at mark (at text place) ≡ Err place
  no_mark mark = rw (no_byte_at_end, place_at_end) refl

  no_number : coordinate_at (at text place) ≡ Err place
  no_number =
      ap (λ (bytes : List ℕ). refused_as fault_place
      (front_number (neg_ℤ (pos max_number)) (pos max_number) (length text) (next_place (at text place)) bytes) >>=
      λ (number : ℤ). Ok (number, past_number (at text place)))
      (nothing_left (prefix_len is_blank (drop place text)))
      ∙ ap (λ (p : ℕ). Err p) (sym end)

  no_token_number : (lo hi : ℤ) → token_number_at lo hi (at text place) ≡ Err place
  no_token_number lo hi = rw (drop_all place text (omega arith)) (ap (λ (p : ℕ). Err p) (sym end))

  no_row : (mark : ℕ) (row : List ℕ) (s : Segment) → row_at (mark ∷ row) s (at text place) ≡ Err place
  no_row mark row s = ⊎_elim
      (λ (number : (mark == 35) ≡ true). rw number
      (ap (λ (read : RouteRead ℤ). read >>= λ (number : ℤ × Reading). row_at row (with_next_number s number.0) number.1)
      no_number))
      (λ (other : (mark == 35) ≡ false). rw other
      (ap (λ (read : RouteRead (Unit {0})). read >>= λ (passed : Unit {0} × Reading). row_at row s passed.1)
      (no_mark mark)))
      (cases_Bool (mark == 35))

  no_segments : segments_at (at text place) ≡ Err place
  no_segments =
      let origin : Point = record { x = pos 0; y = pos 0; layer = pos 0 } in
      let first : segment_at (at text place) ≡ Err place =
      row_is_segment (record { from = origin; to = origin }) (at text place)
      ∙ no_row 40 segment_row (record { from = origin; to = origin }) in
      let more : segments_at (at text place) ≡ one_segment (segment_at (at text place)) =
      parts-one (is_next 33) (past_byte 33) segment_at next_segment_takes (at text place) (rw no_byte_at_end refl)
      ∙ rw (no_byte_at_end, place_at_end) refl in
      more ∙ ap one_segment first

  no_further_at_end : further_at (at text place) ≡ Ok (tt, at text place)
  unfolding further_at
  no_further_at_end = rw (no_byte_at_end, place_at_end) refl

  segments_cut_off : (t : Taken) → left_at_segments t (at text place) ≡ Err place
  segments_cut_off t = ap (λ (read : RouteRead (List Segment)). blocks_behind t.blocks.items
      (as_block t.name.items t.id t.segments.items read)) no_segments

  -- a block that isn't whole is refused there
  pub block_cut_off : (part : Part) (t : Taken) → (part ≡ Name → ⊥) → left_at part t (at text place) ≡ Err place
  block_cut_off Name t begun = absurd (begun refl)
  block_cut_off Id t begun = ap (λ (read : RouteRead ℤ). blocks_behind t.blocks.items
      (read >>= λ (id : ℤ × Reading). further_at id.1 >>= λ (further : Unit {0} × Reading). segments_left t.name.items
      (nat_abs id.0) t.segments.items further.1)) (no_token_number (pos 0) (pos max_id))
  block_cut_off Further t begun = ap (λ (read : RouteRead (Unit {0})). blocks_behind t.blocks.items
      (read >>= λ (further : Unit {0} × Reading). segments_left t.name.items t.id t.segments.items further.1)) no_further_at_end
      ∙ segments_cut_off t
  block_cut_off (Segments row) t begun = among row.now
    where
      among : (row : List ℕ) → left_among row t (at text place) ≡ Err place
      among [] = segments_cut_off t
      among (mark ∷ row) = ap (λ (read : RouteRead Segment). blocks_behind t.blocks.items
          (read >>= λ (one : Segment × Reading). segments_left t.name.items t.id (t.segments.items ++ one.0 ∷ []) one.1))
          (no_row mark row t.segment)

  -- behind whole blocks the text is read
  blocks_whole : (before : List Block) → left_at_name before (at text place) ≡ Ok (before, past_blanks (at text place))
  blocks_whole before =
      ap (as_blocks before) (parts-none is_at_end past_blanks block_at next_block_takes (at text place)
      (ap is_none no_byte_at_end))
      ∙ ap (λ (blocks : List Block). Ok (blocks, past_blanks (at text place))) (append-nil before)

-- ---- the whole text

abbrev blocks_alone : RouteRead (List Block) → Result (List Block) ℕ
blocks_alone read = read >>= λ (blocks : List Block × Reading). Ok blocks.0

blocks_alone-none : (read : RouteRead (List Block)) → blocks_alone (as_blocks [] read) ≡ blocks_alone read
blocks_alone-none (Ok read) = refl
blocks_alone-none (Err refused) = refl

-- what is left at its start is all of it
whole_text : (text : List ℕ) → blocks_alone (left_at_name [] (at text 0)) ≡ blocks_of text
whole_text text = blocks_alone-none (blocks_at (at text 0))

pub text_whole : (text : List ℕ) (place : ℕ) (before : List Block) → place ≡ length text
    → left_at_name before (at text place) ≡ left_at_name [] (at text 0) → blocks_of text ≡ Ok before
text_whole text place before end same = sym (whole_text text) ∙ ap blocks_alone (sym same ∙ blocks_whole text place end before)

pub text_refused : (text : List ℕ) (refused : ℕ) (read : RouteRead (List Block)) → read ≡ left_at_name [] (at text 0)
    → read ≡ Err refused → blocks_of text ≡ Err refused
text_refused text refused read same is = sym (whole_text text) ∙ ap blocks_alone (sym same ∙ is)
