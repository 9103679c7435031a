-- One more token of what stands before the nets.
use Rattle.std.proofs.Common.{◌≡◌, ℕ, ℤ, suc, ◌+◌, ◌-◌, ◌<◌, List, [], ◌∷◌, ◌++◌, length, slice_index, Option, None, Some, Result, Ok, Err, refl, sym, ap, ◌∙◌, arith}
use Rattle.std.specs.Prelude.{IsErrAnd}
use Rattle.std.specs.Option.{option_map, ok_or}
use Rattle.design_tokens.specs.declared.input_fault.InputFault.TheVariants.{Syntax, GridSize, CapacityLimit, WidthLimit}
use Rattle.ispd_reader.specs.Views.{extent_of_size}
use Rattle.text_scan.specs.Reading.{tokens_left}
use Rattle.text_scan.proofs.InTurn.{begins, goes_on, passes_on, left_behind}
use Rattle.text_scan.proofs.Parts.{with_parts}
use Rattle.design_tokens.specs.declared.cut_token.CutToken.{CutToken}
use Rattle.design_tokens.specs.declared.input_error.InputError.{InputError}
use Rattle.design_tokens.specs.declared.input_fault.InputFault.{InputFault}
use Rattle.ispd_reader.specs.declared.layer_list.LayerList.{LayerList}
use Rattle.ispd_reader.specs.declared.layer_list.LayerList.TheVariants.{Vertical, Horizontal, Widths, Spacings, Vias}
use Rattle.design_tokens.specs.Parsing.{Reading, InputRead, parts_at}
use Rattle.design_tokens.specs.Numbers.{word_at, number_at, capacity_at, width_at, spacing_at, side_at}
use Rattle.ispd_reader.specs.Header.{Header, extent_of, capacities_at, widths_at, spacings_at, vias_at}
use Rattle.ispd_reader.specs.HeaderTails.{layers_left, height_left, with_tile, with_vertical, with_horizontal, with_widths, with_spacings, with_vias, list_left, second_left, values_left}
use Rattle.ispd_reader.specs.LayerLists.{first_word, second_word}
use Rattle.design_tokens.specs.Steps.{ReadsNext, RefusesNext, TakesNext, TakesOrEnds}
use Rattle.ispd_reader.specs.HeaderStages.{stage_left, TakesStage}
use Rattle.ispd_reader.specs.LayersRead.{AreRead, header_with}
use Rattle.ispd_reader.specs.declared.header_stage.HeaderStage.{HeaderStage}
use Rattle.design_tokens.specs.declared.wanted.Wanted.TheVariants as wanted
use Rattle.grid_graph.specs.Limits.{max_capacity, max_demand}
use Rattle.ispd_reader.specs.declared.layer_lists.LayerLists.{LayerLists}
use Rattle.text_scan.specs.declared.number.Number.{Number}
use Rattle.grid_base.specs.declared.size.Size.{Size}
use Rattle.grid_base.specs.Numbers.{layers}
use Rattle.std.proofs.lemmas.Result.{err_from_is_err_and}
use Rattle.design_tokens.proofs.NextTokens.{refused_left, refuses_next, no_number, no_number_within}

-- the first word of a list was read
pub first_word_read : (list : LayerList) (so_far : Header) (r after : Reading) → word_at (first_word list) r ≡ Ok (tt, after) → list_left list so_far r ≡ second_left list so_far after
unfolding capacities_at widths_at spacings_at vias_at
first_word_read Vertical so_far r after is = rw is refl
first_word_read Horizontal so_far r after is = rw is refl
first_word_read Widths so_far r after is = rw is refl
first_word_read Spacings so_far r after is = rw is refl
first_word_read Vias so_far r after is = rw is refl

-- it was refused
pub first_word_refused : (list : LayerList) (so_far : Header) (r : Reading) (fault : InputFault) → word_at (first_word list) r ≡ Err fault → list_left list so_far r ≡ Err fault
unfolding capacities_at widths_at spacings_at vias_at
first_word_refused Vertical so_far r fault is = rw is refl
first_word_refused Horizontal so_far r fault is = rw is refl
first_word_refused Widths so_far r fault is = rw is refl
first_word_refused Spacings so_far r fault is = rw is refl
first_word_refused Vias so_far r fault is = rw is refl

-- no number is there
none_read : (xs : List ℕ) → length xs ≡ 0 → xs ≡ []
none_read [] h = refl
none_read (x ∷ xs) h = absurd (omega (arith, h))

begun : {A : Type 0} (xs : List A) (part : ℕ → Reading → InputRead A) (count : ℕ) (r : Reading) → xs ≡ [] → with_parts xs (parts_at part 0 (count - 0) r) ≡ parts_at part 0 count r
begun xs part count r none = rw none (begins part count r)

-- the second word was read
pub second_word_read : (list : LayerList) (size : Size) (read : LayerLists) (r after : Reading) → AreRead (layers size) list 0 read → word_at (second_word list) r ≡ Ok (tt, after) → second_left list (header_with size read) r ≡ values_left list (header_with size read) 0 after
second_word_read Vertical size read r after so_far is = rw is (ap (with_vertical (header_with size read)) (sym (begun read.vertical.items (λ _. capacity_at) (layers size) after (none_read _ so_far.vertical))))
second_word_read Horizontal size read r after so_far is = rw is (ap (with_horizontal (header_with size read)) (sym (begun read.horizontal.items (λ _. capacity_at) (layers size) after (none_read _ so_far.horizontal))))
second_word_read Widths size read r after so_far is = rw is (ap (with_widths (header_with size read)) (sym (begun read.widths.items (λ _. width_at) (layers size) after (none_read _ so_far.widths))))
second_word_read Spacings size read r after so_far is = rw is (ap (with_spacings (header_with size read)) (sym (begun read.spacings.items (λ layer. spacing_at (slice_index read.widths.items layer)) (length read.widths.items) after (none_read _ so_far.spacings))))
second_word_read Vias size read r after so_far is = let k : layers size - 0 ≡ layers size = omega arith in rw (is, k) refl

-- it was refused
pub second_word_refused : (list : LayerList) (so_far : Header) (r : Reading) (fault : InputFault) → word_at (second_word list) r ≡ Err fault → second_left list so_far r ≡ Err fault
second_word_refused Vertical so_far r fault is = rw is refl
second_word_refused Horizontal so_far r fault is = rw is refl
second_word_refused Widths so_far r fault is = rw is refl
second_word_refused Spacings so_far r fault is = rw is refl
second_word_refused Vias so_far r fault is = rw is refl

-- one more number was read
pub value_read : {A : Type 0} (xs : List A) (part : ℕ → Reading → InputRead A) (count i : ℕ) (r after : Reading) (x : A) → i < count → part i r ≡ Ok (x, after) →
    with_parts xs (parts_at part i (count - i) r) ≡ with_parts (xs ++ x ∷ []) (parts_at part (i + 1) (count - (i + 1)) after)
value_read xs part count i r after x lt is = sym (goes_on part xs count i r x after (with_parts xs (parts_at part i (count - i) r)) lt is refl)

-- it was refused
pub value_refused : {A : Type 0} (xs : List A) (part : ℕ → Reading → InputRead A) (count i : ℕ) (r : Reading) (fault : InputFault) → i < count → part i r ≡ Err fault → with_parts xs (parts_at part i (count - i) r) ≡ Err fault
value_refused xs part count i r fault lt is =
    let k : count - i ≡ suc (count - (i + 1)) = omega arith in
    let one : parts_at part i (count - i) r ≡ Err fault = rw (k, is) refl in
    ap (with_parts xs) one

-- one more number that is not used
pub via_read : (count i : ℕ) (r after : Reading) (x : Number) → i < count → number_at r ≡ Ok (x, after) →
    left_behind (parts_at (λ _. number_at) i (count - i) r) ≡ left_behind (parts_at (λ _. number_at) (i + 1) (count - (i + 1)) after)
via_read count i r after x lt is = sym (passes_on (λ _. number_at) count i r x after (left_behind (parts_at (λ _. number_at) i (count - i) r)) lt is refl)

pub via_refused : (count i : ℕ) (r : Reading) (fault : InputFault) → i < count → number_at r ≡ Err fault → left_behind (parts_at (λ _. number_at) i (count - i) r) ≡ Err fault
via_refused count i r fault lt is =
    let k : count - i ≡ suc (count - (i + 1)) = omega arith in
    rw (k, is) refl

-- what is refused at a stage with the token that is next
pub stage_refused : {X Y : Type 0} (c : CutToken) (result : Result HeaderStage InputError) (e : InputError) (view : X → Y) (read : Reading → InputRead Y) (old : HeaderStage) →
    ((lists : LayerLists) (r : Reading) (fault : InputFault) → read r ≡ Err fault → stage_left old lists r ≡ Err fault) → IsErrAnd result (λ y. y ≡ e) → ReadsNext c view (Err e) read → TakesStage c result old
stage_refused c result e view read old so is refused =
    let p = err_from_is_err_and result is in
    rw (p.1, p.2) (λ lists. refuses_next c e view read (stage_left old lists) (so lists) refused)

-- the three numbers make no size
pub no_size : (size : Option Size) (cols rows layers : Number) (fault : InputFault) (r after : Reading) → option_map extent_of_size size ≡ extent_of cols.value rows.value layers.value → ok_or size (GridSize layers.at) ≡ Err fault →
    number_at r ≡ Ok (layers, after) → layers_left cols.value rows.value r ≡ Err fault
no_size None cols rows layers fault r after named is read =
    let e : GridSize layers.at ≡ fault = cc in
    rw (read, sym named, e) refl
no_size (Some size) cols rows layers fault r after named is read = absurd (cc)

-- what is refused with the token that is next, where a reader would have taken it
pub takes_refused : {A X Y : Type 0} (c : CutToken) (result : Result (Unit {0}) InputError) (e : InputError) (view : X → Y) (read : Reading → InputRead Y) (old new : Reading → Result A InputFault) →
    ((r : Reading) (fault : InputFault) → read r ≡ Err fault → old r ≡ Err fault) → IsErrAnd result (λ y. y ≡ e) → ReadsNext c view (Err e) read → TakesNext c result old new
takes_refused c result e view read old new so is refused =
    let p = err_from_is_err_and result is in
    rw (p.1, p.2) (refuses_next c e view read old so refused)

-- the height of a tile was read
pub height_read : (so_far : Header) (width height : ℤ) (r after : Reading) → side_at r ≡ Ok (height, after) → with_tile so_far (height_left width r) ≡ Ok (record so_far { tile = (width, height) }, after)
height_read so_far width height r after is = rw is refl

-- it was refused
pub height_refused : (so_far : Header) (width : ℤ) (r : Reading) (fault : InputFault) → side_at r ≡ Err fault → with_tile so_far (height_left width r) ≡ Err fault
height_refused so_far width r fault is = rw is refl

-- what is left is refused in other words
pub takes_refused_too : {A : Type 0} (c : CutToken) (result : Result (Unit {0}) InputError) (e : InputError) (one two new : Reading → Result A InputFault) → ((r : Reading) → two r ≡ one r) → IsErrAnd result (λ y. y ≡ e) → RefusesNext c e one → TakesNext c result two new
takes_refused_too c result e one two new same is refused =
    let p = err_from_is_err_and result is in
    rw (p.1, p.2) (refused_left c e one two (λ r fault is. same r ∙ is) refused)

pub ends_refused_too : {X Y : Type 0} (c : CutToken) (view : X → Y) (result : Result (Option X) InputError) (e : InputError) (one two new : Reading → InputRead Y) → ((r : Reading) → two r ≡ one r) → IsErrAnd result (λ y. y ≡ e) → RefusesNext c e one → TakesOrEnds c view result two new
ends_refused_too c view result e one two new same is refused =
    let p = err_from_is_err_and result is in
    rw (p.1, p.2) (refused_left c e one two (λ r fault is. same r ∙ is) refused)

-- where no token is left
pub no_value : (list : LayerList) (size : Size) (done : ℕ) (read : LayerLists) → AreRead (layers size) list done read → done < layers size → (r : Reading) → tokens_left r ≡ [] → values_left list (header_with size read) done r ≡ Err (Syntax (length r.text) wanted.Number)
no_value Vertical size done read kept lt r none = ap (with_vertical (header_with size read)) (value_refused read.vertical.items (λ _. capacity_at) (layers size) done r (Syntax (length r.text) wanted.Number) lt (no_number_within 0 max_capacity CapacityLimit r none))
no_value Horizontal size done read kept lt r none = ap (with_horizontal (header_with size read)) (value_refused read.horizontal.items (λ _. capacity_at) (layers size) done r (Syntax (length r.text) wanted.Number) lt (no_number_within 0 max_capacity CapacityLimit r none))
no_value Widths size done read kept lt r none = ap (with_widths (header_with size read)) (value_refused read.widths.items (λ _. width_at) (layers size) done r (Syntax (length r.text) wanted.Number) lt (no_number_within 0 max_demand WidthLimit r none))
no_value Spacings size done read kept lt r none =
    let long : done < length read.widths.items = omega (arith, kept.widths, lt) in
    let width = slice_index read.widths.items done in
    ap (with_spacings (header_with size read)) (value_refused read.spacings.items (λ layer. spacing_at (slice_index read.widths.items layer)) (length read.widths.items) done r (Syntax (length r.text) wanted.Number) long (no_number_within (1 - width) (max_demand - width) WidthLimit r none))
no_value Vias size done read kept lt r none = ap (with_vias (header_with size read)) (via_refused (layers size) done r (Syntax (length r.text) wanted.Number) lt (no_number r none))
