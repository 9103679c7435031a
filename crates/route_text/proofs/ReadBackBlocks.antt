-- Reading back the blocks of a written text.
use Rattle.std.proofs.Common.{◌≡◌, ℕ, ◌<◌, ◌≤◌, true, false, List, [], ◌∷◌, ◌++◌, length, All, refl, sym, ap, ◌∙◌, arith, pos, Some, Ok}
use Rattle.std.specs.Prelude.{map, flat_map, codes, decimal}
use Rattle.std.specs.List.{zip}
use Rattle.std.proofs.lemmas.Int.{ints}
use Rattle.std.proofs.lemmas.List.{append_assoc, append-nil}
use Rattle.std.proofs.lemmas.Slice.Zip.{length-zip, get_or-zip}
use Rattle.grid_base.specs.declared.piece.Piece.{Piece}
use Rattle.grid_graph.specs.declared.grid.Grid.{Grid}
use Rattle.grid_graph.specs.declared.net_spec.NetSpec.{NetSpec}
use Rattle.grid_graph.specs.Borders.{HasBordersInRange}
use Rattle.grid_graph.specs.Grids.{size_of}
use Rattle.grid_graph.specs.Limits.{max_id}
use Rattle.text_scan.specs.Tokens.{is_gap, is_word, ends_word}
use Rattle.text_scan.specs.Numbers.{is_within, value_of}
use Rattle.text_scan.specs.Reading.{Reading, whole, left, past_token, is_next, past_byte, past_blanks, next_byte}
use Rattle.text_scan.proofs.Texts.{Leads, leads-then, next_is_first, left_past_blanks, left_past_token, word_is_next, byte_is_next, other_is_next, word_is_left, gap_is_left, number_is_word, within_them, parts_lead}
use Rattle.text_scan.proofs.Words.{printed_number}
use Rattle.tree_set.specs.Routings.{ArePieces}
use Rattle.route_text.specs.Blocks.{segment_at, segments_at, further_at, begins_number, block_name_at, block_at, blocks_of, is_at_end, token_number_at}
use Rattle.route_text.specs.ReadBack.{IsNamed}
use Rattle.route_text.specs.RouteText.{segment_text, net_text, routes_text}
use Rattle.route_text.specs.Segments.{segments}
use Rattle.route_text.specs.Written.{written_segment, written_block, written_blocks}
use Rattle.route_text.proofs.ReadBackPoints.{segment_leads, segments_have_ends}
use Rattle.tree_set.proofs.Runs.{AreEnds}
use Rattle.route_text.proofs.Takes.{next_segment_takes, next_block_takes}

-- a name before a blank is read
name_leads : (r : Reading) (name rest : List ℕ) → is_word name ≡ true → ends_word rest ≡ true → left r ≡ name ++ rest → Leads (block_name_at r) name rest
name_leads r name rest is ends here = record {
  after = past_token r;
  reads = rw (word_is_next r [] name rest refl is here ends) refl;
  leaves = left_past_token r [] name rest refl is here ends;
}

-- an id that was printed is read back
id_leads : (id : ℕ) → id ≤ max_id → (r : Reading) (rest : List ℕ) → left r ≡ 32 ∷ (decimal id ++ (10 ∷ rest)) → Leads (token_number_at (pos 0) (pos max_id) r) (pos id) (10 ∷ rest)
id_leads id small r rest here =
    let printed = printed_number (pos id) (omega arith) in
    let word = number_is_word (decimal id) printed.0 in
    let within : is_within (pos 0) (pos max_id) (value_of (decimal id)) ≡ true =
    ap (is_within (pos 0) (pos max_id)) printed.1 ∙ within_them (pos 0) (pos max_id) (pos id) (omega (arith, ints)) (omega (arith, ints, small)) in
    record {
      after = past_token r;
      reads = rw (word_is_next r (32 ∷ []) (decimal id) (10 ∷ rest) refl word here refl, printed.0, within, printed.1) refl;
      leaves = left_past_token r (32 ∷ []) (decimal id) (10 ∷ rest) refl word here refl;
    }

-- no number follows where a byte that begins none comes next
further_leads : (b : ℕ) (r : Reading) (rest : List ℕ) → is_word (b ∷ []) ≡ true → begins_number (Some b) ≡ false → left r ≡ 10 ∷ (b ∷ rest) → Leads (further_at r) tt (b ∷ rest)
unfolding further_at
further_leads b r rest is none here =
    let next : begins_number (next_byte r) ≡ false = ap begins_number (next_is_first r (10 ∷ []) (b ∷ []) rest refl is here) ∙ none in
    record { after = past_blanks r; reads = rw next refl; leaves = left_past_blanks r (10 ∷ []) (b ∷ []) rest refl is here }

-- and so behind the id of a written block
no_number_follows : (g : Grid) (ends : List (ℕ × ℕ)) (r : Reading) (rest : List ℕ) → left r ≡ 10 ∷ (flat_map (segment_text g) ends ++ (33 ∷ rest)) → Leads (further_at r) tt (flat_map (segment_text g) ends ++ (33 ∷ rest))
no_number_follows g [] r rest here = further_leads 33 r rest refl refl here
no_number_follows g (s ∷ ss) r rest here = further_leads 40 r _ refl refl here

-- each written segment is read back
segment_reads_back : (g : Grid) → HasBordersInRange g → (ends : ℕ × ℕ) → AreEnds (size_of g) ends → (r : Reading) (gap rest : List ℕ) → is_gap gap ≡ true → left r ≡ gap ++ (segment_text g ends ++ rest) →
    (is_next 33 r ≡ false) × Leads (segment_at (past_byte 33 r)) (written_segment g ends) (10 ∷ rest)
segment_reads_back g borders ends vertices r gap rest blank here =
    let next = other_is_next 33 40 r gap _ blank refl refl here in
    (next.0, segment_leads g ends borders vertices (past_byte 33 r) rest next.1)

-- and so are all up to the mark behind them
segments_lead : (g : Grid) → HasBordersInRange g → (ends : List (ℕ × ℕ)) → All (AreEnds (size_of g)) ends → (r : Reading) (rest : List ℕ) →
    left r ≡ flat_map (segment_text g) ends ++ (33 ∷ rest) → Leads (segments_at r) (map (written_segment g) ends) rest
segments_lead g borders ends vertices r rest here =
    parts_lead (is_next 33) (past_byte 33) segment_at next_segment_takes (AreEnds (size_of g)) (segment_text g) (written_segment g) (10 ∷ []) refl
    (segment_reads_back g borders) (33 ∷ rest) rest (λ q gap blank there. byte_is_next 33 q gap rest blank refl there) ends vertices r [] refl here

-- a net that a text can name, and a set of pieces of the grid
record IsWritten (g : Grid) (x : NetSpec × List Piece) : Type 0 where
  named : IsNamed x.0
  pieces : ArePieces (size_of g) x.1

-- a block's text, part by part
block_parts : (name id lines rest : List ℕ) → (name ++ codes " " ++ id ++ codes "\n" ++ lines ++ codes "!\n") ++ rest ≡ name ++ (32 ∷ (id ++ (10 ∷ (lines ++ (33 ∷ (10 ∷ rest))))))
block_parts name id lines rest = simp append_assoc

-- a written block is read back
block_leads : (g : Grid) (x : NetSpec × List Piece) → HasBordersInRange g → IsWritten g x → (r : Reading) (rest : List ℕ) →
    left r ≡ x.0.name ++ (32 ∷ (decimal x.0.id ++ (10 ∷ (flat_map (segment_text g) (segments (size_of g) x.1) ++ (33 ∷ rest))))) → Leads (block_at r) (written_block g x.0 x.1) rest
unfolding block_at
block_leads g x borders is r rest here =
    let ends = segments (size_of g) x.1 in
    leads-then _ (name_leads r x.0.name _ is.named.name refl here) (λ r1 here1.
    leads-then _ (id_leads x.0.id is.named.id r1 _ here1) (λ r2 here2.
    leads-then _ (no_number_follows g ends r2 rest here2) (λ r3 here3.
    leads-then _ (segments_lead g borders ends (segments_have_ends (size_of g) x.1 is.pieces) r3 rest here3) (λ r4 here4.
    record { after = r4; reads = refl; leaves = here4 }))))

block_reads_back : (g : Grid) → HasBordersInRange g → (x : NetSpec × List Piece) → IsWritten g x → (r : Reading) (gap rest : List ℕ) → is_gap gap ≡ true → left r ≡ gap ++ (net_text g x.0 x.1 ++ rest) →
    (is_at_end r ≡ false) × Leads (block_at (past_blanks r)) (written_block g x.0 x.1) (10 ∷ rest)
block_reads_back g borders x is r gap rest blank here =
    let parts = here ∙ ap (λ bytes. gap ++ bytes) (block_parts x.0.name (decimal x.0.id) (flat_map (segment_text g) (segments (size_of g) x.1)) rest) in (
      word_is_left r gap x.0.name _ blank is.named.name parts,
      block_leads g x borders is (past_blanks r) (10 ∷ rest) (left_past_blanks r gap x.0.name _ blank is.named.name parts),
    )

-- what holds of each element of two lists holds of each pair
pairs_written : (g : Grid) (nets : List NetSpec) (trees : List (List Piece)) → All IsNamed nets → All (ArePieces (size_of g)) trees → All (IsWritten g) (zip nets trees)
pairs_written g nets trees named pieces k d below =
    let in_nets : k < length nets = omega (arith, length-zip nets trees) in
    let in_trees : k < length trees = omega (arith, length-zip nets trees) in
    rw (get_or-zip nets trees k d in_nets in_trees) (record { named = named k d.0 in_nets; pieces = pieces k d.1 in_trees })

-- a written text is read back
pub text_reads_back : (g : Grid) (nets : List NetSpec) (trees : List (List Piece)) → HasBordersInRange g → All IsNamed nets → All (ArePieces (size_of g)) trees → blocks_of (routes_text g nets trees) ≡ Ok (written_blocks g nets trees)
text_reads_back g nets trees borders named pieces =
    let blocks = parts_lead is_at_end past_blanks block_at next_block_takes (IsWritten g) (λ x. net_text g x.0 x.1) (λ x. written_block g x.0 x.1) (10 ∷ []) refl
    (block_reads_back g borders) [] [] (λ q gap blank there. gap_is_left q gap blank there) (zip nets trees) (pairs_written g nets trees named pieces) (whole (routes_text g nets trees)) [] refl (sym (append-nil (routes_text g nets trees))) in
    rw blocks.reads refl
