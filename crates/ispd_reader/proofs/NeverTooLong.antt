-- Reading a text never finds it too long: that is said of its length alone.
use Rattle.std.proofs.Common.{◌≡◌, ℕ, zero, suc, ◌+◌, ◌-◌, Bool, true, false, cond, ◌||◌, List, [], length, slice_get, ◌==◌, slice_index, Option, Some, None, Result, Ok, Err, pos, neg_ℤ, int_lt, refl}
use Rattle.std.specs.Str.{bytes_eq}
use Rattle.text_scan.specs.Reading.{first_number, tokens_left, past_blanks}
use Rattle.text_scan.specs.Within.{within}
use Rattle.text_scan.specs.declared.number_fault.NumberFault.{NumberFault}
use Rattle.text_scan.specs.declared.number_fault.NumberFault.TheVariants.{NotNumber, OutOfRange, End}
use Rattle.design_tokens.specs.declared.input_fault.InputFault.{InputFault}
use Rattle.design_tokens.specs.declared.input_fault.InputFault.TheVariants.{Syntax, Range, TooLong, GridSize, TileSize, CapacityLimit, WidthLimit, NetLimit, DuplicateId, PinOutside, PinLayer, AdjustmentPlace}
use Rattle.design_tokens.specs.declared.wanted.Wanted.{Wanted}
use Rattle.design_tokens.specs.declared.wanted.Wanted.TheVariants as wanted
use Rattle.grid_graph.specs.Limits.{max_capacity, max_demand, max_number, max_id, max_nets, max_pins}
use Rattle.ispd_reader.specs.Limits.{max_adjustments}
use Rattle.design_tokens.specs.Words.{spelling}
use Rattle.design_tokens.specs.Refusals.{refusal_of}
use Rattle.design_tokens.specs.Parsing.{Reading, InputRead, ◌>>=◌, or_refuse, refused_as, parts_at}
use Rattle.design_tokens.specs.Numbers.{wanted_token, word_at, name_at, number_at, number_within, capacity_at, width_at, spacing_at, side_at, count_at}
use Rattle.ispd_reader.specs.Header.{Extent, Header, extent_of, extent_at, capacities_at, widths_at, spacings_at, vias_at, origin_at, tile_size_at, header_at}
use Rattle.ispd_reader.specs.Nets.{widest_spacing, id_at, net_width_at, tile_along, pin_at, pins_at, net_at, more_nets_at, nets_at}
use Rattle.ispd_reader.specs.Adjustments.{step_between, tile_place_at, adjustment_at, adjustments_at}
use Rattle.ispd_reader.specs.Designs.{contents_at}

-- it says that the text is too long
abbrev pub says_too_long : InputFault → Bool
says_too_long TooLong = true
says_too_long _ = false

-- what was read is not refused for its length
abbrev Avoids : {A : Type 0} → Result A InputFault → Type 0
Avoids (Ok x) = Unit {0}
Avoids (Err fault) = says_too_long fault ≡ false

then_avoids : {A B : Type 0} (read : Result A InputFault) (f : A → Result B InputFault) → Avoids read → ((x : A) → Avoids (f x)) → Avoids (read >>= f)
then_avoids (Ok x) f one two = two x
then_avoids (Err fault) f one two = one

or_avoids : {A : Type 0} (o : Option A) (fault : InputFault) → says_too_long fault ≡ false → Avoids (or_refuse o fault)
or_avoids (Some x) fault other = tt
or_avoids None fault other = other

cond_avoids : {A : Type 0} (b : Bool) (x y : Result A InputFault) → Avoids x → Avoids y → Avoids (cond b x y)
cond_avoids true x y one two = one
cond_avoids false x y one two = two

refused_avoids : {A : Type 0} (read : Result A NumberFault) → Avoids (refused_as refusal_of read)
refused_avoids (Ok x) = tt
refused_avoids (Err (NotNumber at)) = refl
refused_avoids (Err (OutOfRange at)) = refl
refused_avoids (Err (End at)) = refl

parts_avoid : {A : Type 0} (part : ℕ → Reading → InputRead A) → ((i : ℕ) (r : Reading) → Avoids (part i r)) → (number n : ℕ) (r : Reading) → Avoids (parts_at part number n r)
parts_avoid part each number zero r = tt
parts_avoid part each number (suc n) r =
    then_avoids (part number r) _ (each number r) (λ one. then_avoids (parts_at part (number + 1) n one.1) _ (parts_avoid part each (number + 1) n one.1) (λ more. tt))

wanted_avoids : (word : Wanted) (r : Reading) → Avoids (wanted_token word r)
wanted_avoids word r = then_avoids (or_refuse (slice_get (tokens_left r) 0) (Syntax (length r.text) word)) _ (or_avoids (slice_get (tokens_left r) 0) (Syntax (length r.text) word) refl) (λ token. tt)

word_avoids : (word : Wanted) (r : Reading) → Avoids (word_at word r)
unfolding word_at
word_avoids word r = then_avoids (wanted_token word r) _ (wanted_avoids word r) (λ token. cond_avoids (bytes_eq token.0.bytes (spelling word)) (Ok (tt, token.1)) (Err (Syntax token.0.place word)) tt refl)

name_avoids : (r : Reading) → Avoids (name_at r)
unfolding name_at
name_avoids r = then_avoids (wanted_token wanted.Name r) _ (wanted_avoids wanted.Name r) (λ token. tt)

number_avoids : (r : Reading) → Avoids (number_at r)
unfolding number_at
number_avoids r = then_avoids (refused_as refusal_of (first_number (neg_ℤ (pos max_number)) (pos max_number) r)) _ (refused_avoids (first_number (neg_ℤ (pos max_number)) (pos max_number) r)) (λ number. tt)

within_avoids : (lo hi : ℕ) (refusal : ℕ → InputFault) → ((at : ℕ) → says_too_long (refusal at) ≡ false) → (r : Reading) → Avoids (number_within lo hi refusal r)
unfolding number_within
within_avoids lo hi refusal other r = then_avoids (number_at r) _ (number_avoids r)
    (λ number. then_avoids (or_refuse (within lo hi number.0.value) (refusal number.0.at)) _ (or_avoids (within lo hi number.0.value) (refusal number.0.at) (other number.0.at)) (λ value. tt))

capacity_avoids : (r : Reading) → Avoids (capacity_at r)
capacity_avoids r = within_avoids 0 max_capacity CapacityLimit (λ at. refl) r

count_avoids : (limit : ℕ) (r : Reading) → Avoids (count_at limit r)
count_avoids limit r = within_avoids 0 limit NetLimit (λ at. refl) r

side_avoids : (r : Reading) → Avoids (side_at r)
unfolding side_at
side_avoids r = then_avoids (number_at r) _ (number_avoids r) (λ number. cond_avoids (int_lt number.0.value (pos 1)) (Err (TileSize number.0.at)) (Ok (number.0.value, number.1)) refl tt)

-- ---- what stands before the nets

extent_avoids : (r : Reading) → Avoids (extent_at r)
unfolding extent_at
extent_avoids r =
    then_avoids (word_at wanted.Grid r) _ (word_avoids wanted.Grid r) (λ word.
    then_avoids (number_at word.1) _ (number_avoids word.1) (λ cols.
    then_avoids (number_at cols.1) _ (number_avoids cols.1) (λ rows.
    then_avoids (number_at rows.1) _ (number_avoids rows.1) (λ layers.
    then_avoids (or_refuse (extent_of cols.0.value rows.0.value layers.0.value) (GridSize layers.0.at)) _ (or_avoids (extent_of cols.0.value rows.0.value layers.0.value) (GridSize layers.0.at) refl) (λ extent. tt)))))

two_words_avoid : {A : Type 0} (one two : Wanted) (part : Reading → InputRead A) (r : Reading) → ((after : Reading) → Avoids (part after)) → Avoids (word_at one r >>= λ a. word_at two a.1 >>= λ b. part b.1)
two_words_avoid one two part r rest =
    then_avoids (word_at one r) _ (word_avoids one r) (λ a. then_avoids (word_at two a.1) _ (word_avoids two a.1) (λ b. rest b.1))

capacities_avoid : (direction : Wanted) (layers : ℕ) (r : Reading) → Avoids (capacities_at direction layers r)
unfolding capacities_at
capacities_avoid direction layers r = two_words_avoid direction wanted.Capacity (λ after. parts_at (λ _. capacity_at) 0 layers after) r (λ after. parts_avoid (λ _. capacity_at) (λ _ left. capacity_avoids left) 0 layers after)

widths_avoid : (layers : ℕ) (r : Reading) → Avoids (widths_at layers r)
unfolding widths_at
widths_avoid layers r = two_words_avoid wanted.Minimum wanted.Width (λ after. parts_at (λ _. width_at) 0 layers after) r (λ after. parts_avoid (λ _. width_at) (λ _ left. within_avoids 0 max_demand WidthLimit (λ at. refl) left) 0 layers after)

spacings_avoid : (widths : List ℕ) (r : Reading) → Avoids (spacings_at widths r)
unfolding spacings_at
spacings_avoid widths r = two_words_avoid wanted.Minimum wanted.Spacing (λ after. parts_at (λ layer. spacing_at (slice_index widths layer)) 0 (length widths) after) r
    (λ after. parts_avoid (λ layer. spacing_at (slice_index widths layer)) (λ layer left. within_avoids (1 - slice_index widths layer) (max_demand - slice_index widths layer) WidthLimit (λ at. refl) left) 0 (length widths) after)

vias_avoid : (layers : ℕ) (r : Reading) → Avoids (vias_at layers r)
unfolding vias_at
vias_avoid layers r = two_words_avoid wanted.Via wanted.Spacing (λ after. parts_at (λ _. number_at) 0 layers after >>= λ unused. Ok (tt, unused.1)) r
    (λ after. then_avoids (parts_at (λ _. number_at) 0 layers after) _ (parts_avoid (λ _. number_at) (λ _ left. number_avoids left) 0 layers after) (λ unused. tt))

origin_avoids : (r : Reading) → Avoids (origin_at r)
unfolding origin_at
origin_avoids r = then_avoids (number_at r) _ (number_avoids r) (λ x. then_avoids (number_at x.1) _ (number_avoids x.1) (λ y. tt))

tile_size_avoids : (r : Reading) → Avoids (tile_size_at r)
unfolding tile_size_at
tile_size_avoids r = then_avoids (side_at r) _ (side_avoids r) (λ width. then_avoids (side_at width.1) _ (side_avoids width.1) (λ height. tt))

header_avoids : (r : Reading) → Avoids (header_at r)
unfolding header_at
header_avoids r =
    then_avoids (extent_at r) _ (extent_avoids r) (λ extent.
    then_avoids (capacities_at wanted.Vertical extent.0.layers extent.1) _ (capacities_avoid wanted.Vertical extent.0.layers extent.1) (λ vertical.
    then_avoids (capacities_at wanted.Horizontal extent.0.layers vertical.1) _ (capacities_avoid wanted.Horizontal extent.0.layers vertical.1) (λ horizontal.
    then_avoids (widths_at extent.0.layers horizontal.1) _ (widths_avoid extent.0.layers horizontal.1) (λ widths.
    then_avoids (spacings_at widths.0 widths.1) _ (spacings_avoid widths.0 widths.1) (λ spacings.
    then_avoids (vias_at extent.0.layers spacings.1) _ (vias_avoid extent.0.layers spacings.1) (λ vias.
    then_avoids (origin_at vias.1) _ (origin_avoids vias.1) (λ origin.
    then_avoids (tile_size_at origin.1) _ (tile_size_avoids origin.1) (λ tile. tt))))))))

-- ---- the nets

id_avoids : (taken : ℕ → Bool) (r : Reading) → Avoids (id_at taken r)
unfolding id_at
id_avoids taken r = then_avoids (number_at r) _ (number_avoids r) (λ number.
    then_avoids (or_refuse (within 0 max_id number.0.value) (Range number.0.at)) _ (or_avoids (within 0 max_id number.0.value) (Range number.0.at) refl) (λ id.
    cond_avoids (taken id) (Err (DuplicateId number.0.at id)) (Ok (id, number.1)) refl tt))

pin_avoids : (header : Header) (id pin : ℕ) (r : Reading) → Avoids (pin_at header id pin r)
unfolding pin_at
pin_avoids header id pin r =
    then_avoids (number_at r) _ (number_avoids r) (λ x.
    then_avoids (or_refuse (tile_along header.origin.0 header.tile.0 header.extent.cols x.0.value) (PinOutside x.0.at id pin)) _ (or_avoids (tile_along header.origin.0 header.tile.0 header.extent.cols x.0.value) (PinOutside x.0.at id pin) refl) (λ col.
    then_avoids (number_at x.1) _ (number_avoids x.1) (λ y.
    then_avoids (or_refuse (tile_along header.origin.1 header.tile.1 header.extent.rows y.0.value) (PinOutside y.0.at id pin)) _ (or_avoids (tile_along header.origin.1 header.tile.1 header.extent.rows y.0.value) (PinOutside y.0.at id pin) refl) (λ row.
    then_avoids (number_at y.1) _ (number_avoids y.1) (λ layer.
    then_avoids (or_refuse (within 1 header.extent.layers layer.0.value) (PinLayer layer.0.at id pin)) _ (or_avoids (within 1 header.extent.layers layer.0.value) (PinLayer layer.0.at id pin) refl) (λ level. tt))))))

pins_avoid : (header : Header) (id count : ℕ) (r : Reading) → Avoids (pins_at header id count r)
unfolding pins_at
pins_avoid header id count r = parts_avoid (pin_at header id) (pin_avoids header id) 0 count r

net_avoids : (header : Header) (taken : ℕ → Bool) (pins : ℕ) (r : Reading) → Avoids (net_at header taken pins r)
unfolding net_at
net_avoids header taken pins r =
    then_avoids (name_at r) _ (name_avoids r) (λ name.
    then_avoids (id_at taken name.1) _ (id_avoids taken name.1) (λ id.
    then_avoids (count_at (max_pins - pins) id.1) _ (count_avoids (max_pins - pins) id.1) (λ count.
    then_avoids (net_width_at header count.1) _ (within_avoids 0 (max_demand - widest_spacing header.spacings) WidthLimit (λ at. refl) count.1) (λ width.
    then_avoids (pins_at header id.0 count.0 width.1) _ (pins_avoid header id.0 count.0 width.1) (λ places. tt)))))

more_nets_avoid : (header : Header) (taken : ℕ → Bool) (pins n : ℕ) (r : Reading) → Avoids (more_nets_at header taken pins n r)
unfolding more_nets_at
more_nets_avoid header taken pins zero r = tt
more_nets_avoid header taken pins (suc n) r =
    then_avoids (net_at header taken pins r) _ (net_avoids header taken pins r) (λ net.
    then_avoids (more_nets_at header (λ id. id == net.0.0.id || taken id) net.0.1 n net.1) _ (more_nets_avoid header (λ id. id == net.0.0.id || taken id) net.0.1 n net.1) (λ more. tt))

nets_avoid : (header : Header) (r : Reading) → Avoids (nets_at header r)
unfolding nets_at
nets_avoid header r = two_words_avoid wanted.Num wanted.Net (λ after. count_at max_nets after >>= λ count. more_nets_at header (λ _. false) 0 count.0 count.1) r
    (λ after. then_avoids (count_at max_nets after) _ (count_avoids max_nets after) (λ count. more_nets_avoid header (λ _. false) 0 count.0 count.1))

-- ---- the adjustments

tile_place_avoids : (e : Extent) (r : Reading) → Avoids (tile_place_at e r)
unfolding tile_place_at
tile_place_avoids e r =
    then_avoids (number_at r) _ (number_avoids r) (λ col.
    then_avoids (number_at col.1) _ (number_avoids col.1) (λ row.
    then_avoids (number_at row.1) _ (number_avoids row.1) (λ layer. tt)))

adjustment_avoids : (e : Extent) (index : ℕ) (r : Reading) → Avoids (adjustment_at e index r)
unfolding adjustment_at
adjustment_avoids e index r =
    then_avoids (tile_place_at e r) _ (tile_place_avoids e r) (λ from.
    then_avoids (tile_place_at e from.1) _ (tile_place_avoids e from.1) (λ to.
    then_avoids (or_refuse (step_between e from.0.0 to.0.0) (AdjustmentPlace to.0.1 index)) _ (or_avoids (step_between e from.0.0 to.0.0) (AdjustmentPlace to.0.1 index) refl) (λ edge.
    then_avoids (capacity_at to.1) _ (capacity_avoids to.1) (λ level. tt))))

adjustments_avoid : (e : Extent) (r : Reading) → Avoids (adjustments_at e r)
unfolding adjustments_at
adjustments_avoid e r = cond_avoids (length (tokens_left r) == 0) (Ok ([], past_blanks r)) (count_at max_adjustments (past_blanks r) >>= λ count. parts_at (adjustment_at e) 0 count.0 count.1) tt
    (then_avoids (count_at max_adjustments (past_blanks r)) _ (count_avoids max_adjustments (past_blanks r)) (λ count. parts_avoid (adjustment_at e) (adjustment_avoids e) 0 count.0 count.1))

-- ---- all parts

contents_avoid : (r : Reading) → Avoids (contents_at r)
unfolding contents_at
contents_avoid r =
    then_avoids (header_at r) _ (header_avoids r) (λ header.
    then_avoids (nets_at header.0 header.1) _ (nets_avoid header.0 header.1) (λ nets.
    then_avoids (adjustments_at header.0.extent nets.1) _ (adjustments_avoid header.0.extent nets.1) (λ adjustments. tt)))

-- what the reading of a text is refused for is not its length
pub never_too_long : (r : Reading) (fault : InputFault) → contents_at r ≡ Err fault → says_too_long fault ≡ false
never_too_long r fault refused = rw refused at (contents_avoid r)
