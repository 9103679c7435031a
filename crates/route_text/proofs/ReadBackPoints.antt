-- Reading back the points and segments of a written text.
use Rattle.std.proofs.Common.{◌≡◌, ℕ, ◌+◌, ◌<◌, true, List, [], ◌∷◌, ◌++◌, length, All, refl, sym, ap, ◌∙◌, arith, length-append, ℤ, pos, neg_ℤ, FitsSigned}
use Rattle.std.specs.Prelude.{filter, codes, decimal}
use Rattle.std.specs.Fmt.{signed_decimal}
use Rattle.std.specs.Int.{w64, w128}
use Rattle.std.proofs.lemmas.Int.{ints}
use Rattle.std.proofs.lemmas.List.{append_assoc}
use Rattle.std.proofs.lemmas.List.Elements.{All-append, All-filter}
use Rattle.std.proofs.Math.Facts.{sfits_lit, sfits_widen}
use Rattle.grid_base.specs.declared.piece.Piece.{Piece}
use Rattle.grid_base.specs.declared.size.Size.{Size}
use Rattle.grid_base.specs.Lines.{is_along}
use Rattle.grid_base.specs.Numbers.{IsPiece, IsVertex, layer_of}
use Rattle.grid_base.proofs.Places.{place_at-inside}
use Rattle.grid_graph.specs.declared.grid.Grid.{Grid}
use Rattle.grid_graph.specs.Layouts.{IsPosition}
use Rattle.grid_graph.specs.Grids.{size_of, position_of}
use Rattle.grid_graph.specs.Limits.{max_number}
use Rattle.grid_graph.specs.Borders.{HasBordersInRange}
use Rattle.grid_graph.proofs.Borders.{position_in_range}
use Rattle.text_scan.specs.Tokens.{is_word}
use Rattle.text_scan.specs.Numbers.{is_within, value_of, number_front, ends_number}
use Rattle.text_scan.specs.Reading.{Reading, left, past, past_blanks, past_byte}
use Rattle.text_scan.proofs.Numbers.{front_read, fits_between}
use Rattle.text_scan.proofs.Texts.{Leads, leads-then, left_past, left_past_blanks, byte_is_next, number_is_word, word_is_long, within_them}
use Rattle.text_scan.proofs.Words.{printed_number, number_is_front}
use Rattle.tree_set.specs.Routings.{ArePieces}
use Rattle.grid_base.specs.declared.axis.Axis.TheVariants.{X, Y}
use Rattle.route_text.specs.Blocks.{mark_at, coordinate_at, point_at, segment_at}
use Rattle.route_text.specs.RouteText.{point_text, segment_text}
use Rattle.route_text.specs.Segments.{segments}
use Rattle.tree_set.proofs.Runs.{AreEnds, runs_have_ends, vias_have_ends}
use Rattle.route_text.specs.Written.{written_point, written_segment}

-- a mark that is left is read
mark_leads : (b : ℕ) (r : Reading) (rest : List ℕ) → is_word (b ∷ []) ≡ true → left r ≡ b ∷ rest → Leads (mark_at b r) tt rest
mark_leads b r rest is here = let next = byte_is_next b r [] rest refl is here in record { after = past_byte b r; reads = rw next.0 refl; leaves = next.1 }

-- a printed number in range, before what is no digit, is read back
printed_leads : (r : Reading) (z : ℤ) (rest : List ℕ) → IsPosition z → ends_number rest ≡ true → left r ≡ signed_decimal z ++ rest → Leads (coordinate_at r) z rest
printed_leads r z rest range ends here =
    let lo : ℤ = neg_ℤ (pos max_number) in
    let hi : ℤ = pos (max_number) in
    let number = signed_decimal z in
    let fits : FitsSigned w128 z = sfits_widen {w = w64} {w' = w128} tt (fits_between lo hi z (sfits_lit tt) (sfits_lit tt) range.low range.high) in
    let printed = printed_number z fits in
    let word = number_is_word number printed.0 in
    let next = past_blanks r in
    let after : left next ≡ number ++ rest = left_past_blanks r [] number rest refl word here in
    let front : number_front (left next) ≡ number = ap number_front after ∙ number_is_front number rest printed.0 ends in
    let more : 0 < length (left next) = omega (arith, word_is_long number word, length-append number rest, ap length after) in
    let found = front_read lo hi (length r.text) next.place (left next) number more (sym front) printed.0 in
    let within : is_within lo hi (value_of number) ≡ true = ap (is_within lo hi) printed.1 ∙ within_them lo hi z range.low range.high in
    record {
      after = past (length number) next;
      reads = rw found (rw within (rw front (rw (printed.0, printed.1) refl)));
      leaves = left_past next number rest after;
    }

-- a point's text, mark by mark
point_parts : (x y layer rest : List ℕ) → (codes "(" ++ x ++ codes "," ++ y ++ codes "," ++ layer ++ codes ")") ++ rest ≡ 40 ∷ (x ++ (44 ∷ (y ++ (44 ∷ (layer ++ (41 ∷ rest))))))
point_parts x y layer rest = simp append_assoc

-- a written point is read back
point_leads : (g : Grid) (v : ℕ) → HasBordersInRange g → IsVertex (size_of g) v → (r : Reading) (rest : List ℕ) → left r ≡ point_text g v ++ rest → Leads (point_at r) (written_point g v) rest
unfolding point_at
point_leads g v borders vertex r rest here =
    let at = position_in_range g v borders vertex in
    let inside = place_at-inside (size_of g) v vertex in
    let layer : IsPosition (pos (layer_of (size_of g) v + 1)) = record { low = omega (arith, ints); high = omega (arith, ints, inside.2, (size_of g).within.layer_limit) } in
    let parts = point_parts (signed_decimal (position_of g v).0) (signed_decimal (position_of g v).1) (decimal (layer_of (size_of g) v + 1)) rest in
    leads-then _ (mark_leads 40 r _ refl (here ∙ parts)) (λ r1 here1.
    leads-then _ (printed_leads r1 (position_of g v).0 _ at.0 refl here1) (λ r2 here2.
    leads-then _ (mark_leads 44 r2 _ refl here2) (λ r3 here3.
    leads-then _ (printed_leads r3 (position_of g v).1 _ at.1 refl here3) (λ r4 here4.
    leads-then _ (mark_leads 44 r4 _ refl here4) (λ r5 here5.
    leads-then _ (printed_leads r5 (pos (layer_of (size_of g) v + 1)) _ layer refl here5) (λ r6 here6.
    leads-then _ (mark_leads 41 r6 _ refl here6) (λ r7 here7.
    record { after = r7; reads = refl; leaves = here7 })))))))

-- a segment's text, point by point
segment_parts : (from to rest : List ℕ) → (from ++ codes "-" ++ to ++ codes "\n") ++ rest ≡ from ++ (45 ∷ (to ++ (10 ∷ rest)))
segment_parts from to rest = simp append_assoc

-- a written segment is read back, up to its line's end
pub segment_leads : (g : Grid) (ends : ℕ × ℕ) → HasBordersInRange g → AreEnds (size_of g) ends → (r : Reading) (rest : List ℕ) → left r ≡ segment_text g ends ++ rest → Leads (segment_at r) (written_segment g ends) (10 ∷ rest)
unfolding segment_at
segment_leads g ends borders vertices r rest here =
    leads-then _ (point_leads g ends.0 borders vertices.0 r _ (here ∙ segment_parts (point_text g ends.0) (point_text g ends.1) rest)) (λ r1 here1.
    leads-then _ (mark_leads 45 r1 _ refl here1) (λ r2 here2.
    leads-then _ (point_leads g ends.1 borders vertices.1 r2 _ here2) (λ r3 here3.
    record { after = r3; reads = refl; leaves = here3 })))

-- the segments of a set of pieces go from vertex to vertex
pub segments_have_ends : (s : Size) (pieces : List Piece) → ArePieces s pieces → All (AreEnds s) (segments s pieces)
segments_have_ends s pieces are =
    let across = runs_have_ends s (filter (is_along X) pieces) (All-filter (is_along X) (IsPiece s) pieces are) in
    let along = runs_have_ends s (filter (is_along Y) pieces) (All-filter (is_along Y) (IsPiece s) pieces are) in
    All-append (AreEnds s) _ _ (All-append (AreEnds s) _ _ across along) (vias_have_ends s pieces are)
