-- An automaton that takes the front of a text keeps what the text reads as.
use Rattle.std.proofs.Common.{◌≡◌, ℕ, ◌+◌, ◌<◌, ◌≤◌, ◌==◌, Bool, true, false, List, [], ◌∷◌, ◌++◌, length, drop, take, get_or}
use Rattle.std.proofs.Common.{slice_range, Some, None, Result, Ok, Err, ℤ, pos, neg_ℤ, nat_abs, refl, sym, ap, ◌∙◌, ⊎_elim}
use Rattle.std.proofs.Common.{arith, add-zero, add-one, length-drop, length-take-le}
use Rattle.std.specs.Char.{is_ascii_digit}
use Rattle.std.specs.List.{prefix_len, position_or_len}
use Rattle.std.specs.Prelude.{slice_get, is_none}
use Rattle.std.proofs.Math.Seq.{drop-cons}
use Rattle.std.proofs.lemmas.Bool.{cases_Bool, cases_lt}
use Rattle.grid_graph.specs.Limits.{max_id, max_number}
use Rattle.text_scan.specs.Faults.{fault_place}
use Rattle.text_scan.specs.Numbers.{sign_len, unsigned, is_number, number_front, front_number, token_number}
use Rattle.text_scan.specs.Parts.{◌>>=◌, refused_as}
use Rattle.text_scan.specs.Reading.{Reading, left, tokens_left, past, past_blanks, next_place, next_byte, is_next, next_number}
use Rattle.text_scan.specs.Reading.{past_number, past_byte}
use Rattle.text_scan.specs.Tokens.{is_blank, tokens_from, first_end}
use Rattle.text_scan.specs.Until.{parts_until}
use Rattle.text_scan.proofs.Bounds.{Takes, parts-none, parts-one}
use Rattle.text_scan.proofs.Reading.{IsNextRun, run_at_end, token_in_run, run_leads, number_leads}
use Rattle.text_scan.proofs.Tokens.{tokens_after_blank}
use Rattle.text_scan.proofs.Texts.{left_past}
use Rattle.route_text.specs.declared.block.Block.{Block}
use Rattle.route_text.specs.declared.point.Point.{Point}
use Rattle.route_text.specs.declared.segment.Segment.{Segment}
use Rattle.route_text.specs.Blocks.{mark_at, coordinate_at, token_number_at, point_at, segment_at, segments_at, begins_number}
use Rattle.route_text.specs.Blocks.{further_at, block_at, is_at_end, blocks_at}
use Rattle.route_text.specs.Reads.{RouteRead}
use Rattle.route_text.proofs.Takes.{next_segment_takes, next_block_takes}
use Rattle.reference_readers.specs.declared.taken.Part.{Part}
use Rattle.reference_readers.specs.declared.taken.Part.TheVariants.{Name, Id, Further, Segments}
use Rattle.reference_readers.specs.declared.taken.Taken.{Taken}
use Rattle.reference_readers.specs.ReferenceBlocks.{at, segment_row, row_at, segments_left, blocks_behind, left_among, left_at}
use Rattle.reference_readers.specs.ReferenceNumbers.{word_as_number}
use Rattle.reference_readers.proofs.WordNumbers.{word_is_number, word_is_no_number}

-- a byte that is left
module _ (r : Reading) (b : ℕ) (bs : List ℕ) (here : left r ≡ b ∷ bs) where
  -- a blank is passed over
  module _ (blank : is_blank b ≡ true) where
    blank_place : next_place (past 1 r) ≡ next_place r
    blank_place =
        let before : prefix_len is_blank (left r) ≡ 1 + prefix_len is_blank bs =
        ap (prefix_len is_blank) here ∙ rw blank refl in
        let after : prefix_len is_blank (left (past 1 r)) ≡ prefix_len is_blank bs =
        ap (prefix_len is_blank) (left_past r (b ∷ []) bs here) in
        omega (arith, before, after)

    blank_tokens : tokens_left (past 1 r) ≡ tokens_left r
    blank_tokens = ap (tokens_from (r.place + 1)) (left_past r (b ∷ []) bs here) ∙ sym (tokens_after_blank r.place b bs blank)
        ∙ sym (ap (tokens_from r.place) here)

  -- any other is the next
  module _ (other : is_blank b ≡ false) where
    next_here : next_place r ≡ r.place
    next_here = ap (λ (n : ℕ). r.place + n) (ap (prefix_len is_blank) here ∙ rw other refl) ∙ add-zero r.place

    blanks_here : past_blanks r ≡ r
    blanks_here = ap (λ (p : ℕ). at r.text p) next_here

    byte_here : next_byte r ≡ Some b
    byte_here = ap (λ (q : Reading). slice_get (left q) 0) blanks_here ∙ ap (λ (bytes : List ℕ). slice_get bytes 0) here

-- parts up to an end, where the reading stands before or behind a blank
same_parts_left : {A : Type 0} (ended : Reading → Bool) (looked : Reading → Reading) (part : Reading → RouteRead A)
    → ((r : Reading) → Takes 1 r (part (looked r))) →
    (r q : Reading) → ended q ≡ ended r → looked q ≡ looked r
    → parts_until ended looked part q ≡ parts_until ended looked part r
same_parts_left {A} ended looked part takes r q ends looks = ⊎_elim
    (λ (over : ended r ≡ true). parts-none ended looked part takes q (ends ∙ over)
    ∙ ap (λ (after : Reading). Ok ([], after)) looks ∙ sym (parts-none ended looked part takes r over))
    (λ (more : ended r ≡ false). parts-one ended looked part takes q (ends ∙ more)
    ∙ ap (λ (read : RouteRead A). read >>= λ (one : A × Reading). parts_until ended looked part one.1 >>=
    λ (rest : List A × Reading). Ok (one.0 ∷ rest.0, rest.1)) (ap part looks)
    ∙ sym (parts-one ended looked part takes r more))
    (cases_Bool (ended r))

module _ (r : Reading) (b : ℕ) (bs : List ℕ) (here : left r ≡ b ∷ bs) (blank : is_blank b ≡ true) where
  blocks_behind_blank : blocks_at (past 1 r) ≡ blocks_at r
  blocks_behind_blank = same_parts_left is_at_end past_blanks block_at next_block_takes r (past 1 r)
      (ap (λ (p : ℕ). is_none (slice_get (drop p r.text) 0)) (blank_place r b bs here blank))
      (ap (λ (p : ℕ). at r.text p) (blank_place r b bs here blank))

  segments_behind_blank : segments_at (past 1 r) ≡ segments_at r
  segments_behind_blank = same_parts_left (is_next 33) (past_byte 33) segment_at next_segment_takes r (past 1 r)
      (rw (blank_place r b bs here blank) refl) (rw (blank_place r b bs here blank) refl)

  row_behind_blank : (mark : ℕ) (row : List ℕ) (s : Segment) → row_at (mark ∷ row) s (past 1 r) ≡ row_at (mark ∷ row) s r
  row_behind_blank mark row s = rw (blank_place r b bs here blank) refl

  further_behind_blank : further_at (past 1 r) ≡ further_at r
  unfolding further_at
  further_behind_blank = rw (blank_place r b bs here blank, blank_tokens r b bs here blank) refl

  token_number_behind_blank : (lo hi : ℤ) → token_number_at lo hi (past 1 r) ≡ token_number_at lo hi r
  token_number_behind_blank lo hi = rw (blank_tokens r b bs here blank) refl

-- a blank is no part of what is left
pub left_behind_blank : (part : Part) (t : Taken) (r : Reading) (b : ℕ) (bs : List ℕ) → left r ≡ b ∷ bs → is_blank b ≡ true
    → left_at part t (past 1 r) ≡ left_at part t r
left_behind_blank Name t r b bs here blank =
    ap (λ (read : RouteRead (List Block)). read >>= λ (more : List Block × Reading). Ok (t.blocks.items ++ more.0, more.1))
    (blocks_behind_blank r b bs here blank)
left_behind_blank Id t r b bs here blank =
    ap (λ (read : RouteRead ℤ). blocks_behind t.blocks.items
    (read >>= λ (id : ℤ × Reading). further_at id.1 >>= λ (further : Unit {0} × Reading). segments_left t.name.items
    (nat_abs id.0) t.segments.items further.1))
    (token_number_behind_blank r b bs here blank (pos 0) (pos max_id))
left_behind_blank Further t r b bs here blank =
    ap (λ (read : RouteRead (Unit {0})). blocks_behind t.blocks.items
    (read >>= λ (further : Unit {0} × Reading). segments_left t.name.items t.id t.segments.items further.1))
    (further_behind_blank r b bs here blank)
left_behind_blank (Segments row) t r b bs here blank = among row.now
  where
    among : (row : List ℕ) → left_among row t (past 1 r) ≡ left_among row t r
    among [] = ap (λ (read : RouteRead (List Segment)). blocks_behind t.blocks.items
        (read >>= λ (more : List Segment × Reading). Ok
        (record { name = t.name.items; id = t.id; segments = t.segments.items ++ more.0 }, more.1)))
        (segments_behind_blank r b bs here blank)
    among (mark ∷ row) = ap (λ (read : RouteRead Segment). blocks_behind t.blocks.items
        (read >>= λ (segment : Segment × Reading). segments_left t.name.items t.id
        (t.segments.items ++ segment.0 ∷ []) segment.1))
        (row_behind_blank r b bs here blank mark row t.segment)

-- ---- a segment as a row of marks and numbers

-- the one part and then the others, where they are the same
pub then-same : {A B F : Type 0} (read : Result A F) (f g : A → Result B F) → ((x : A) → f x ≡ g x)
    → (read >>= f) ≡ (read >>= g)
then-same (Ok x) f g same = same x
then-same (Err refusal) f g same = refl

-- two parts in one, and then the others
pub then-then : {A B D F : Type 0} (read : Result A F) (f : A → Result B F) (g : B → Result D F) (h : A → Result D F)
    → ((x : A) → (f x >>= g) ≡ h x) → ((read >>= f) >>= g) ≡ (read >>= h)
then-then (Ok x) f g h same = same x
then-then (Err refusal) f g h same = refl

point_row : (k : Point × Reading → RouteRead Segment) (row : List ℕ) (s : Segment) (r : Reading)
    → ((p : Point) (q : Reading) → k (p, q) ≡ row_at row (record { from = s.to; to = p }) q) →
    (point_at r >>= k) ≡ row_at (40 ∷ 35 ∷ 44 ∷ 35 ∷ 44 ∷ 35 ∷ 41 ∷ row) s r
unfolding point_at
point_row k row s r same =
    then-then (mark_at 40 r) _ k _ (λ a.
    then-then (coordinate_at a.1) _ k _ (λ x.
    then-then (mark_at 44 x.1) _ k _ (λ b.
    then-then (coordinate_at b.1) _ k _ (λ y.
    then-then (mark_at 44 y.1) _ k _ (λ c.
    then-then (coordinate_at c.1) _ k _ (λ layer.
    then-then (mark_at 41 layer.1) _ k _ (λ d. same (record { x = x.0; y = y.0; layer = layer.0 }) d.1)))))))

-- whatever numbers stood there before
pub row_is_segment : (s : Segment) (r : Reading) → segment_at r ≡ row_at (40 ∷ segment_row) s r
unfolding segment_at
row_is_segment s r = point_row _ (45 ∷ 40 ∷ 35 ∷ 44 ∷ 35 ∷ 44 ∷ 35 ∷ 41 ∷ []) s r
    (λ from q. then-same (mark_at 45 q) _ _ (λ m. point_row _ [] (record { from = s.to; to = from }) m.1 (λ to after. refl)))

-- ---- what stands at a place

pub byte_left : (text : List ℕ) (place : ℕ) → place < length text
    → left (at text place) ≡ get_or text place 0 ∷ drop (place + 1) text
byte_left text place inside = rw add-one (drop-cons text place 0 inside)

module _ (text : List ℕ) (place : ℕ) (inside : place < length text) (other : is_blank (get_or text place 0) ≡ false) where
  here : left (at text place) ≡ get_or text place 0 ∷ drop (place + 1) text
  here = byte_left text place inside

  pub place_here : next_place (at text place) ≡ place
  place_here = next_here (at text place) (get_or text place 0) (drop (place + 1) text) here other

  pub byte_at : next_byte (at text place) ≡ Some (get_or text place 0)
  byte_at = byte_here (at text place) (get_or text place 0) (drop (place + 1) text) here other

  -- a mark
  pub mark_taken : (mark : ℕ) → (get_or text place 0 == mark) ≡ true
      → mark_at mark (at text place) ≡ Ok (tt, at text (place + 1))
  mark_taken mark same = rw (byte_at, same, place_here) refl

  pub mark_refused : (mark : ℕ) → (get_or text place 0 == mark) ≡ false → mark_at mark (at text place) ≡ Err place
  mark_refused mark apart = rw (byte_at, apart, place_here) refl

  -- the end of a block
  pub end_taken : (get_or text place 0 == 33) ≡ true → segments_at (at text place) ≡ Ok ([], at text (place + 1))
  end_taken same = parts-none (is_next 33) (past_byte 33) segment_at next_segment_takes (at text place) (rw byte_at same)
      ∙ rw (byte_at, same, place_here) refl

  -- or one more segment
  pub one_more_segment : (get_or text place 0 == 33) ≡ false →
      segments_at (at text place) ≡ (segment_at (at text place) >>= λ (one : Segment × Reading). segments_at one.1 >>=
      λ (more : List Segment × Reading). Ok (one.0 ∷ more.0, more.1))
  one_more_segment apart = parts-one (is_next 33) (past_byte 33) segment_at next_segment_takes (at text place)
      (rw byte_at apart) ∙ rw (byte_at, apart, place_here) refl

  -- no further number
  pub no_further : begins_number (Some (get_or text place 0)) ≡ false → further_at (at text place) ≡ Ok (tt, at text place)
  unfolding further_at
  no_further none = rw (byte_at, none, place_here) refl

  -- a word
  module _ (end : ℕ) (ends : end ≡ place + position_or_len is_blank (drop place text)) (within : end ≤ length text) where
    run : IsNextRun (at text place) place end
    run = record { starts = sym place_here; ends = ends; in_text = omega arith }

    word_grows : place < end
    word_grows = ⊎_elim (λ (more : place < end). more)
        (λ (less : end ≤ place). let same : place ≡ end = omega (arith, ends) in absurd (omega (arith, run_at_end run same)))
        (cases_lt place end)

    pub leads : first_end (length text) (tokens_left (at text place)) ≡ end
    leads = run_leads run within

    pub token : tokens_left (at text place) ≡ record { place = place; bytes = slice_range text place end } ∷ tokens_from end
        (drop end text)
    token = token_in_run run (λ same. omega (arith, word_grows))

    module _ (lo hi : ℤ) where
      pub number_taken : (z : ℤ) → word_as_number lo hi (slice_range text place end) ≡ Some z
          → token_number_at lo hi (at text place) ≡ Ok (z, at text end)
      number_taken z is = rw (leads, token, (word_is_number lo hi z place (slice_range text place end) is).0) refl

      pub number_refused : word_as_number lo hi (slice_range text place end) ≡ None
          → token_number_at lo hi (at text place) ≡ Err place
      number_refused none =
          let no = word_is_no_number lo hi place (slice_range text place end) none in
          rw (leads, token, no.refused) (ap (λ (p : ℕ). Err p) no.stands)

    pub further_taken : (z : ℤ) → begins_number (Some (get_or text place 0)) ≡ true
        → word_as_number (neg_ℤ (pos max_number)) (pos max_number) (slice_range text place end) ≡ Some z
        → further_at (at text place) ≡ Ok (tt, at text end)
    unfolding further_at
    further_taken z begins is = rw (byte_at, begins)
        (ap (λ (read : RouteRead ℤ). read >>= λ (number : ℤ × Reading). Ok (tt, number.1))
        (number_taken (neg_ℤ (pos max_number)) (pos max_number) z is))

    pub further_refused : begins_number (Some (get_or text place 0)) ≡ true
        → word_as_number (neg_ℤ (pos max_number)) (pos max_number) (slice_range text place end) ≡ None
        → further_at (at text place) ≡ Err place
    unfolding further_at
    further_refused begins none = rw (byte_at, begins)
        (ap (λ (read : RouteRead ℤ). read >>= λ (number : ℤ × Reading). Ok (tt, number.1))
        (number_refused (neg_ℤ (pos max_number)) (pos max_number) none))

  -- a number of a segment
  module _ (end : ℕ) (ends : end ≡ place + (sign_len (drop place text)
      + prefix_len is_ascii_digit (unsigned (drop place text)))) (within : end ≤ length text) where
    front : number_front (drop place text) ≡ slice_range text place end
    front = ap (λ (n : ℕ). take n (drop place text)) (omega (arith, ends))

    front_ends : end ≡ place + length (number_front (drop place text))
    front_ends =
        let rest = drop place text in
        let n = sign_len rest + prefix_len is_ascii_digit (unsigned rest) in
        omega (arith, ends, length-take-le n rest (omega (arith, within, ends, length-drop place text)))

    next_read : (lo hi : ℤ) → next_number lo hi (at text place)
        ≡ token_number lo hi (record { place = place; bytes = slice_range text place end })
    next_read lo hi =
        ap (λ (p : ℕ). front_number lo hi (length text) p (drop p text)) place_here
        ∙ ap (front_number lo hi (length text) place) here
        ∙ ap (λ (bytes : List ℕ). token_number lo hi (record { place = place; bytes = bytes }))
        (ap number_front (sym here) ∙ front)

    pub coordinate_taken : (z : ℤ) → word_as_number (neg_ℤ (pos max_number)) (pos max_number) (slice_range text place end)
        ≡ Some z → coordinate_at (at text place) ≡ Ok (z, at text end)
    coordinate_taken z is =
        let word = word_is_number (neg_ℤ (pos max_number)) (pos max_number) z place (slice_range text place end) is in
        ap (λ read. refused_as fault_place read >>= λ (number : ℤ). Ok (number, past_number (at text place)))
        (next_read (neg_ℤ (pos max_number)) (pos max_number) ∙ word.0)
        ∙ ap (λ (after : Reading). Ok (z, after)) (number_leads (at text place) place end (sym place_here)
        (ap is_number front ∙ word.1) front_ends)

    pub coordinate_refused : word_as_number (neg_ℤ (pos max_number)) (pos max_number) (slice_range text place end) ≡ None
        → coordinate_at (at text place) ≡ Err place
    coordinate_refused none =
        let no = word_is_no_number (neg_ℤ (pos max_number)) (pos max_number) place (slice_range text place end) none in
        ap (λ read. refused_as fault_place read >>= λ (number : ℤ). Ok (number, past_number (at text place)))
        (next_read (neg_ℤ (pos max_number)) (pos max_number) ∙ no.refused)
        ∙ ap (λ (p : ℕ). Err p) no.stands
