-- One more token of the adjustments.
use Rattle.std.proofs.Common.{◌≡◌, ℕ, suc, ◌+◌, ◌-◌, ◌<◌, List, [], ◌∷◌, length, Option, Some, None, Result, Ok, Err, refl, sym, ap, ◌∙◌, ◌⊎◌, ⊎_elim, arith}
use Rattle.std.specs.Prelude.{option_map}
use Rattle.grid_base.specs.declared.edge.Edge.{Edge}
use Rattle.grid_base.specs.declared.place.Place.{Place}
use Rattle.text_scan.specs.Tokens.{Token, first_end}
use Rattle.text_scan.specs.declared.number.Number.{Number}
use Rattle.text_scan.specs.Reading.{tokens_left, past_blanks, past_token}
use Rattle.text_scan.proofs.Reading.{tokens_past_blanks}
use Rattle.ispd_reader.specs.declared.adjustment_stage.AdjustmentStage.{AdjustmentStage}
use Rattle.ispd_reader.specs.declared.adjustment_stage.AdjustmentStage.TheVariants as stages
use Rattle.ispd_reader.specs.declared.adjustments_reader.AdjustmentsReader.{AdjustmentsReader}
use Rattle.ispd_reader.specs.declared.adjustments_reader.AdjustmentsReader.TheVariants as readers
use Rattle.ispd_reader.specs.declared.tile_stage.TileStage.{TileStage}
use Rattle.ispd_reader.specs.declared.tile_stage.TileStage.TheVariants as tiles
use Rattle.design_tokens.specs.declared.cut_token.CutToken.{CutToken}
use Rattle.design_tokens.specs.declared.input_error.InputError.{InputError}
use Rattle.design_tokens.specs.declared.input_error.InputError.TheVariants.{Input, NoMemory}
use Rattle.design_tokens.specs.declared.input_fault.InputFault.{InputFault}
use Rattle.design_tokens.specs.declared.input_fault.InputFault.TheVariants.{AdjustmentPlace, Syntax, CapacityLimit}
use Rattle.design_tokens.specs.declared.wanted.Wanted.TheVariants as wanted
use Rattle.ispd_reader.specs.Limits.{max_adjustments}
use Rattle.design_tokens.specs.Parsing.{Reading, InputRead, ◌>>=◌, parts_at}
use Rattle.design_tokens.specs.Numbers.{number_at, capacity_at, count_at}
use Rattle.ispd_reader.specs.Header.{Extent}
use Rattle.ispd_reader.specs.Adjustments.{Adjustment, place_in, step_between, tile_place_at, adjustment_at, adjustments_at}
use Rattle.ispd_reader.specs.AdjustmentsLeft.{tile_left, with_level, with_tile, with_tiles, adjustment_left, alone, and_owed, adjustments_left, and_more}
use Rattle.design_tokens.specs.Steps.{IsNext, ReadsNext, RefusesNext, IsMissing}
use Rattle.grid_graph.specs.Limits.{max_capacity}
use Rattle.design_tokens.proofs.NextTokens.{refused_left, refuses_next, no_number, no_number_within}
use Rattle.ispd_reader.proofs.AdjustSteps.{no_adjustments, some_adjustments}

-- ---- any token

-- the token is next behind the blanks too
next_past_blanks : (c : CutToken) (r : Reading) → IsNext c r → IsNext c (past_blanks r)
next_past_blanks c r next = record { token = next.token; later = next.later; first = tokens_past_blanks r ∙ next.first; known = next.known }

-- and what is left behind it is the same
past_token_past_blanks : (r : Reading) → past_token (past_blanks r) ≡ past_token r
past_token_past_blanks r = ap (λ (ts : List Token). record { text = r.text; place = first_end (length r.text) ts }) (tokens_past_blanks r)

-- ---- a tile

tile_fault : (e : Extent) (stage : TileStage) (r : Reading) (fault : InputFault) → number_at r ≡ Err fault → tile_left e stage r ≡ Err fault
unfolding tile_left
tile_fault e tiles.Column r fault is = rw is refl
tile_fault e (tiles.Row col) r fault is = rw is refl
tile_fault e (tiles.Layer col row) r fault is = rw is refl

-- its number is refused
pub tile_refused : (c : CutToken) (e : InputError) (extent : Extent) (stage : TileStage) → ReadsNext c (λ (n : Number). n) (Err e) number_at → RefusesNext c e (tile_left extent stage)
tile_refused c e extent stage reads = refuses_next c e (λ (n : Number). n) number_at (tile_left extent stage) (tile_fault extent stage) reads

-- its column, its row and its layer are read
pub column_read : (e : Extent) (col : Number) (r after : Reading) → number_at r ≡ Ok (col, after) → tile_left e tiles.Column r ≡ tile_left e (tiles.Row col) after
unfolding tile_left
column_read e col r after is = rw is refl

pub row_read : (e : Extent) (col row : Number) (r after : Reading) → number_at r ≡ Ok (row, after) → tile_left e (tiles.Row col) r ≡ tile_left e (tiles.Layer col row) after
unfolding tile_left
row_read e col row r after is = rw is refl

pub layer_read : (e : Extent) (col row layer : Number) (r after : Reading) → number_at r ≡ Ok (layer, after) → tile_left e (tiles.Layer col row) r ≡ Ok ((place_in e col.value row.value layer.value, layer.at), after)
unfolding tile_left
layer_read e col row layer r after is = rw is refl

-- ---- an adjustment

from_fault : (e : Extent) (index : ℕ) (tile : TileStage) (r : Reading) (fault : InputFault) → tile_left e tile r ≡ Err fault → adjustment_left e index (stages.From tile) r ≡ Err fault
unfolding adjustment_left
from_fault e index tile r fault is = ap (with_tiles e index) is

to_fault : (e : Extent) (index : ℕ) (from : Option Place) (tile : TileStage) (r : Reading) (fault : InputFault) → tile_left e tile r ≡ Err fault → adjustment_left e index (stages.To from tile) r ≡ Err fault
unfolding adjustment_left
to_fault e index from tile r fault is = ap (with_tile e index from) is

level_fault : (e : Extent) (index : ℕ) (edge : Option Edge) (r : Reading) (fault : InputFault) → capacity_at r ≡ Err fault → adjustment_left e index (stages.Level edge) r ≡ Err fault
unfolding adjustment_left
level_fault e index edge r fault is = ap (with_level (option_map (λ e. e.0) edge)) is

-- its first tile is refused, its second tile, its level
pub from_refused : (c : CutToken) (e : InputError) (extent : Extent) (index : ℕ) (tile : TileStage) → RefusesNext c e (tile_left extent tile) → RefusesNext c e (adjustment_left extent index (stages.From tile))
from_refused c e extent index tile refused = refused_left c e (tile_left extent tile) (adjustment_left extent index (stages.From tile)) (from_fault extent index tile) refused

pub to_refused : (c : CutToken) (e : InputError) (extent : Extent) (index : ℕ) (from : Option Place) (tile : TileStage) → RefusesNext c e (tile_left extent tile) → RefusesNext c e (adjustment_left extent index (stages.To from tile))
to_refused c e extent index from tile refused = refused_left c e (tile_left extent tile) (adjustment_left extent index (stages.To from tile)) (to_fault extent index from tile) refused

pub level_refused : (c : CutToken) (e : InputError) (extent : Extent) (index : ℕ) (edge : Option Edge) → ReadsNext c (λ (n : ℕ). n) (Err e) capacity_at → RefusesNext c e (adjustment_left extent index (stages.Level edge))
level_refused c e extent index edge reads = refuses_next c e (λ (n : ℕ). n) capacity_at (adjustment_left extent index (stages.Level edge)) (level_fault extent index edge) reads

-- a number of the first tile is read, and the last of them
pub from_goes_on : (e : Extent) (index : ℕ) (tile next : TileStage) (r after : Reading) → tile_left e tile r ≡ tile_left e next after → adjustment_left e index (stages.From tile) r ≡ adjustment_left e index (stages.From next) after
unfolding adjustment_left
from_goes_on e index tile next r after is = ap (with_tiles e index) is

pub from_ends : (e : Extent) (index : ℕ) (tile : TileStage) (from : Option Place × ℕ) (r after : Reading) → tile_left e tile r ≡ Ok (from, after) → adjustment_left e index (stages.From tile) r ≡ adjustment_left e index (stages.To from.0 tiles.Column) after
unfolding adjustment_left
from_ends e index tile from r after is = ap (with_tiles e index) is

-- a number of the second tile is read, and the last of them
pub to_goes_on : (e : Extent) (index : ℕ) (from : Option Place) (tile next : TileStage) (r after : Reading) → tile_left e tile r ≡ tile_left e next after → adjustment_left e index (stages.To from tile) r ≡ adjustment_left e index (stages.To from next) after
unfolding adjustment_left
to_goes_on e index from tile next r after is = ap (with_tile e index from) is

pub to_ends : (e : Extent) (index : ℕ) (from : Option Place) (tile : TileStage) (to : Option Place × ℕ) (edge : Option Edge) (r after : Reading) → tile_left e tile r ≡ Ok (to, after) → step_between e from to.0 ≡ Some (option_map (λ e. e.0) edge) →
    adjustment_left e index (stages.To from tile) r ≡ adjustment_left e index (stages.Level edge) after
unfolding adjustment_left
to_ends e index from tile to edge r after is step = ap (with_tile e index from) is ∙ rw step refl

-- there is no step between its tiles
pub no_step : (e : Extent) (index : ℕ) (from : Option Place) (tile : TileStage) (to : Option Place × ℕ) (r after : Reading) → tile_left e tile r ≡ Ok (to, after) → step_between e from to.0 ≡ None →
    adjustment_left e index (stages.To from tile) r ≡ Err (AdjustmentPlace to.1 index)
unfolding adjustment_left
no_step e index from tile to r after is step = ap (with_tile e index from) is ∙ rw step refl

-- its level is read
pub level_read : (e : Extent) (index : ℕ) (edge : Option Edge) (level : ℕ) (r after : Reading) → capacity_at r ≡ Ok (level, after) → adjustment_left e index (stages.Level edge) r ≡ Ok (record { edge = option_map (λ e. e.0) edge; level = level }, after)
unfolding adjustment_left
level_read e index edge level r after is = ap (with_level (option_map (λ e. e.0) edge)) is

-- before its first number the whole of it is left
whole_left : (e : Extent) (index : ℕ) (r : Reading) → adjustment_left e index (stages.From tiles.Column) r ≡ adjustment_at e index r
unfolding adjustment_left tile_left adjustment_at tile_place_at
whole_left e index r = refl

adjustment_missing : (e : Extent) (index : ℕ) (stage : AdjustmentStage) (r : Reading) → tokens_left r ≡ [] → adjustment_left e index stage r ≡ Err (Syntax (length r.text) wanted.Number)
adjustment_missing e index (stages.From tile) r none = from_fault e index tile r _ (tile_fault e tile r _ (no_number r none))
adjustment_missing e index (stages.To from tile) r none = to_fault e index from tile r _ (tile_fault e tile r _ (no_number r none))
adjustment_missing e index (stages.Level edge) r none = level_fault e index edge r _ (no_number_within 0 max_capacity CapacityLimit r none)

-- ---- all adjustments

-- nothing was made
and_more-none : (left : Result (List Adjustment) InputFault) → and_more [] left ≡ left
and_more-none (Ok more) = refl
and_more-none (Err fault) = refl

-- the first part, and those behind it
behind_first : (x : Adjustment) (more : InputRead (List Adjustment)) → (more >>= λ more. Ok (x ∷ more.0)) ≡ alone (more >>= λ more. Ok (x ∷ more.0, more.1))
behind_first x (Ok more) = refl
behind_first x (Err fault) = refl

with_first : (e : Extent) (index owed : ℕ) (one : InputRead Adjustment) →
    and_owed e index owed one ≡ alone (one >>= λ one. parts_at (adjustment_at e) (index + 1) owed one.1 >>= λ more. Ok (one.0 ∷ more.0, more.1))
with_first e index owed (Ok one) = behind_first one.0 (parts_at (adjustment_at e) (index + 1) owed one.1)
with_first e index owed (Err fault) = refl

more_alone : (x : Adjustment) (more : InputRead (List Adjustment)) → (more >>= λ more. Ok (x ∷ more.0)) ≡ and_more (x ∷ []) (alone more)
more_alone x (Ok more) = refl
more_alone x (Err fault) = refl

-- before no adjustment, and before some
pub before_none : (e : Extent) (index count : ℕ) (r : Reading) → count ≡ 0 → adjustments_left e readers.Done r ≡ alone (parts_at (adjustment_at e) index count r)
unfolding adjustments_left
before_none e index count r none = rw none refl

pub before_some : (e : Extent) (index count : ℕ) (r : Reading) → 0 < count → adjustments_left e (readers.Adjustment (stages.From tiles.Column) index (count - 1)) r ≡ alone (parts_at (adjustment_at e) index count r)
unfolding adjustments_left
before_some e index count r some =
    let k : count ≡ suc (count - 1) = omega arith in
    ap (and_owed e index (count - 1)) (whole_left e index r) ∙ with_first e index (count - 1) (adjustment_at e index r) ∙ sym (ap (λ n. alone (parts_at (adjustment_at e) index n r)) k)

-- how many there are is refused
count_fault : (e : Extent) (c : CutToken) (r : Reading) (fault : InputFault) → IsNext c r → count_at max_adjustments (past_blanks r) ≡ Err fault → adjustments_left e readers.Count r ≡ Err fault
unfolding adjustments_left
count_fault e c r fault next is = ap alone (some_adjustments e r (λ none. cc (none, next.first)) ∙ ap (λ (r : InputRead ℕ). r >>= λ count. parts_at (adjustment_at e) 0 count.0 count.1) is)

pub count_refused_next : (c : CutToken) (e : InputError) (extent : Extent) → ReadsNext c (λ (n : ℕ). n) (Err e) (count_at max_adjustments) → RefusesNext c e (adjustments_left extent readers.Count)
count_refused_next c (Input fault) extent reads = λ r next. count_fault extent c r fault next (reads (past_blanks r) (next_past_blanks c r next))
count_refused_next c NoMemory extent reads = tt

-- and it is read
pub count_read : (e : Extent) (c : CutToken) (count : ℕ) (new : Reading → Result (List Adjustment) InputFault) → ReadsNext c (λ (n : ℕ). n) (Ok count) (count_at max_adjustments) → ((r : Reading) → new r ≡ alone (parts_at (adjustment_at e) 0 count r)) →
    (r : Reading) → IsNext c r → adjustments_left e readers.Count r ≡ and_more [] (new (past_token r))
unfolding adjustments_left
count_read e c count new reads left r next =
    let read : count_at max_adjustments (past_blanks r) ≡ Ok (count, past_token r) = reads (past_blanks r) (next_past_blanks c r next) ∙ ap (λ (after : Reading). Ok (count, after)) (past_token_past_blanks r) in
    ap alone (some_adjustments e r (λ none. cc (none, next.first)) ∙ ap (λ (r : InputRead ℕ). r >>= λ count. parts_at (adjustment_at e) 0 count.0 count.1) read)
    ∙ sym (left (past_token r)) ∙ sym (and_more-none (new (past_token r)))

-- the adjustment is refused
one_fault : (e : Extent) (stage : AdjustmentStage) (index owed : ℕ) (r : Reading) (fault : InputFault) → adjustment_left e index stage r ≡ Err fault → adjustments_left e (readers.Adjustment stage index owed) r ≡ Err fault
unfolding adjustments_left
one_fault e stage index owed r fault is = ap (and_owed e index owed) is

pub one_refused : (c : CutToken) (e : InputError) (extent : Extent) (stage : AdjustmentStage) (index owed : ℕ) → RefusesNext c e (adjustment_left extent index stage) → RefusesNext c e (adjustments_left extent (readers.Adjustment stage index owed))
one_refused c e extent stage index owed refused = refused_left c e (adjustment_left extent index stage) (adjustments_left extent (readers.Adjustment stage index owed)) (one_fault extent stage index owed) refused

-- a number of it is read, and the last of them
pub one_goes_on : (e : Extent) (stage next : AdjustmentStage) (index owed : ℕ) (r after : Reading) → adjustment_left e index stage r ≡ adjustment_left e index next after →
    adjustments_left e (readers.Adjustment stage index owed) r ≡ and_more [] (adjustments_left e (readers.Adjustment next index owed) after)
unfolding adjustments_left
one_goes_on e stage next index owed r after is = ap (and_owed e index owed) is ∙ sym (and_more-none (and_owed e index owed (adjustment_left e index next after)))

pub one_ends : (e : Extent) (stage : AdjustmentStage) (index owed : ℕ) (r after : Reading) (x : Adjustment) (new : AdjustmentsReader) → adjustment_left e index stage r ≡ Ok (x, after) → adjustments_left e new after ≡ alone (parts_at (adjustment_at e) (index + 1) owed after) →
    adjustments_left e (readers.Adjustment stage index owed) r ≡ and_more (x ∷ []) (adjustments_left e new after)
unfolding adjustments_left
one_ends e stage index owed r after x new is left = ap (and_owed e index owed) is ∙ more_alone x (parts_at (adjustment_at e) (index + 1) owed after) ∙ sym (ap (and_more (x ∷ [])) left)

-- behind the last one
pub done_goes_on : (e : Extent) (r after : Reading) → adjustments_left e readers.Done r ≡ and_more [] (adjustments_left e readers.Done after)
unfolding adjustments_left
done_goes_on e r after = refl

-- where no token is left
pub number_is_missing : (extent : Extent) (stage : AdjustmentStage) (index owed : ℕ) → IsMissing wanted.Number (adjustments_left extent (readers.Adjustment stage index owed))
number_is_missing extent stage index owed r none = one_fault extent stage index owed r _ (adjustment_missing extent index stage r none)

count_may_end : (e : Extent) (r : Reading) → tokens_left r ≡ [] → adjustments_left e readers.Count r ≡ Ok []
unfolding adjustments_left
count_may_end e r none = ap alone (no_adjustments e r none)

done_may_end : (e : Extent) (r : Reading) → adjustments_left e readers.Done r ≡ Ok []
unfolding adjustments_left
done_may_end e r = refl

-- where no token is left and none is owed
pub may_end : (a : AdjustmentsReader) → (a ≡ readers.Count) ⊎ (a ≡ readers.Done) → (e : Extent) (r : Reading) → tokens_left r ≡ [] → adjustments_left e a r ≡ Ok []
may_end a stage e r none = ⊎_elim
    (λ (is : a ≡ readers.Count). rw is (count_may_end e r none))
    (λ (is : a ≡ readers.Done). rw is (done_may_end e r))
    stage

-- before the first token
pub nothing_read : (e : Extent) (r : Reading) → adjustments_left e readers.Count r ≡ alone (adjustments_at e r)
unfolding adjustments_left
nothing_read e r = refl
