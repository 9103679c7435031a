-- What the next token does to what is left of the nets.
use Rattle.std.proofs.Common.{◌≡◌, ℕ, suc, ◌+◌, ◌-◌, ◌==◌, ◌||◌, Bool, true, false, List, length, [], ◌∷◌, ◌++◌, Option, Some, None, ℤ, Result, Ok, Err, refl, sym, ap, ◌∙◌}
use mathlib.Core.Path.{fun_ext}
use Rattle.std.specs.Prelude.{IfOk}
use Rattle.std.specs.BTreeSet.{contains}
use Rattle.std.specs.Ordering.{nat_cmp}
use Rattle.std.proofs.lemmas.List.{map_push, append-nil}
use Rattle.text_scan.specs.Reading.{past_token, tokens_left}
use Rattle.text_scan.specs.Within.{within}
use Rattle.text_scan.specs.declared.number.Number.{Number}
use Rattle.text_scan.proofs.Parts.{with_parts, with_parts-none, with_parts-one, IfOk-behind}
use Rattle.grid_base.specs.declared.vertex.Vertex.{Vertex}
use Rattle.grid_graph.specs.declared.grid.Grid.{Grid}
use Rattle.grid_graph.specs.Grids.{layout_of}
use Rattle.grid_graph.specs.Limits.{max_pins}
use Rattle.design_tokens.specs.declared.cut_token.CutToken.{CutToken}
use Rattle.design_tokens.specs.declared.input_error.InputError.{InputError}
use Rattle.design_tokens.specs.declared.input_fault.InputFault.{InputFault}
use Rattle.design_tokens.specs.declared.input_fault.InputFault.TheVariants.{Syntax, PinOutside, PinLayer}
use Rattle.ispd_reader.specs.declared.net_stage.NetStage.{NetStage}
use Rattle.ispd_reader.specs.declared.net_stage.NetStage.TheVariants as stages
use Rattle.ispd_reader.specs.declared.nets_reader.NetsReader.{NetsReader}
use Rattle.ispd_reader.specs.declared.present_net.PresentNet.{PresentNet}
use Rattle.design_tokens.specs.declared.wanted.Wanted.TheVariants as wanted
use Rattle.design_tokens.specs.Parsing.{Reading, InputRead, ◌>>=◌, or_refuse, parts_at, Refuses, refusal_in}
use Rattle.design_tokens.specs.Numbers.{number_at, number_within, count_at}
use Rattle.ispd_reader.specs.Header.{Header}
use Rattle.ispd_reader.specs.Nets.{Net, vertex_at, tile_along, id_at, net_at, net_width_at, pin_at, pins_at, more_nets_at, nets_at}
use Rattle.ispd_reader.specs.PinParts.{pin_column_at, pin_row_at, pin_level_at, pin_behind_row, pin_behind_column, pin_behind_start}
use Rattle.ispd_reader.specs.NetStages.{is_last_stage, wanted_at_stage}
use Rattle.ispd_reader.specs.NetsLeft.{TakesNet, and_nets, net_behind_pins, net_behind_pin_count, taken_with, nets_left_of, nets_left_at_id, nets_left_at_width, nets_left_at_pins, nets_left_at_pin, nets_left_at_layer, nets_left_at, nets_left}
use Rattle.ispd_reader.specs.NetsSoFar.{AreNetsOf}
use Rattle.design_tokens.specs.Steps.{IsNext, IsMissing}
use Rattle.ispd_reader.specs.Views.{header_of, nets_of, numbers}
use Rattle.design_tokens.proofs.NextTokens.{refuses_next, no_word, no_name, no_number}

-- ---- one token of a stage

left_there : (s : NetStage) (header : Header) (n : NetsReader) (r : Reading) → n.stage ≡ s → nets_left header n r ≡ nets_left_at s header n r
unfolding nets_left
left_there s header n r is = ap (λ s. nets_left_at s header n r) is

-- the token reads like this
pub took : {Y : Type 0} (grid : Grid) (c : CutToken) (s : NetStage) (old new : NetsReader) (read : Reading → InputRead Y) (y : Y) (behind : Header → NetsReader → InputRead Y → InputRead (List Net)) →
    old.stage ≡ s → ((r : Reading) → nets_left_at s (header_of (layout_of grid)) old r ≡ behind (header_of (layout_of grid)) old (read r)) → ((after : Reading) → behind (header_of (layout_of grid)) old (Ok (y, after)) ≡ nets_left (header_of (layout_of grid)) new after) →
    ((r : Reading) → IsNext c r → read r ≡ Ok (y, past_token r)) → AreNetsOf grid new → TakesNet grid c (Ok tt) old new
took grid c s old new read y behind is first goes reads fits =
    let header = header_of (layout_of grid) in
    record {
      takes = λ r next. left_there s header old r is ∙ first r ∙ ap (behind header old) (reads r next) ∙ goes (past_token r);
      fits = fits;
    }

-- the token is refused
pub refused_there : {Y : Type 0} (grid : Grid) (c : CutToken) (s : NetStage) (old new : NetsReader) (read : Reading → InputRead Y) (e : InputError) (behind : Header → NetsReader → InputRead Y → InputRead (List Net)) →
    old.stage ≡ s → ((r : Reading) → nets_left_at s (header_of (layout_of grid)) old r ≡ behind (header_of (layout_of grid)) old (read r)) → ((fault : InputFault) → behind (header_of (layout_of grid)) old (Err fault) ≡ Err fault) →
    ((r : Reading) → IsNext c r → Refuses refusal_in e (read r)) → TakesNet grid c (Err e) old new
refused_there {Y} grid c s old new read e behind is first strict refused =
    let header = header_of (layout_of grid) in
    record {
      takes = refuses_next c e (λ (y : Y). y) read (nets_left header old) (λ r fault h. left_there s header old r is ∙ first r ∙ ap (behind header old) h ∙ strict fault) refused;
      fits = tt;
    }

-- ---- from one stage to the next

then_same : {A B F : Type 0} (read : Result A F) (f g : A → Result B F) → IfOk read (λ x. f x ≡ g x) → (read >>= f) ≡ (read >>= g)
then_same (Ok x) f g same = same
then_same (Err refusal) f g same = refl

every : {A F : Type 0} (read : Result A F) (P : A → Type 0) → ((x : A) → P x) → IfOk read P
every (Ok x) P each = each x
every (Err refusal) P each = tt

-- the next net, or none
pub net_next : (header : Header) (old : NetsReader) (k count : ℕ) (r : Reading) → count ≡ suc k → nets_left_of header old count r ≡ nets_left header (record old { owed = k; stage = stages.Name }) r
unfolding nets_left more_nets_at net_at
net_next header old k count r is = rw is refl

pub no_net_next : (header : Header) (old : NetsReader) (count : ℕ) (r : Reading) → count ≡ 0 → nets_left_of header old count r ≡ nets_left header (record old { stage = stages.Done }) r
unfolding nets_left more_nets_at
no_net_next header old count r is = rw is (ap (λ (nets : List Net). Ok (nets, r)) (append-nil (nets_of old.nets.items)))

-- the id is read
same_id : (header : Header) (pins id : ℕ) (name : List ℕ) (count : InputRead ℕ) → IfOk (net_behind_pin_count header pins id name count) (λ net. net.0.0.id ≡ id)
same_id header pins id name count =
    let P = λ (net : (Net × ℕ) × Reading). net.0.0.id ≡ id in
    IfOk-behind P count _ (λ count.
    IfOk-behind P (net_width_at header count.1) _ (λ width.
    IfOk-behind P (pins_at header id count.0 width.1) _ (λ places. refl)))

weaker : {A F : Type 0} (read : Result A F) (P Q : A → Type 0) → IfOk read P → ((x : A) → P x → Q x) → IfOk read Q
weaker (Ok x) P Q h so = so x h
weaker (Err refusal) P Q h so = tt

abbrev and_more : Header → (ℕ → Bool) → ℕ → (Net × ℕ) × Reading → InputRead (List Net)
and_more header ids owed net = do
  more ← more_nets_at header ids net.0.1 owed net.1
  Ok (net.0.0 ∷ more.0, more.1)

pub id_next : (header : Header) (old with : NetsReader) (id : ℕ) (after : Reading) → ((q : ℕ) → contains nat_cmp with.taken q ≡ (q == id || contains nat_cmp old.taken q)) →
    nets_left_at_id header old (Ok (id, after)) ≡ nets_left header (record old { net = record old.net { id = id }; taken = with.taken; stage = stages.PinCount }) after
unfolding nets_left
id_next header old with id after taken =
    let ids : contains nat_cmp with.taken ≡ taken_with old id = fun_ext taken in
    let net = net_behind_pin_count header old.pins id old.net.name (count_at (max_pins - old.pins) after) in
    let one = λ (net : (Net × ℕ) × Reading). and_more header (taken_with old net.0.0.id) old.owed net in
    let two = λ (net : (Net × ℕ) × Reading). and_more header (contains nat_cmp with.taken) old.owed net in
    ap (with_parts (nets_of old.nets.items)) (then_same net one two (weaker net (λ net. net.0.0.id ≡ id) (λ net. one net ≡ two net) (same_id header old.pins id old.net.name (count_at (max_pins - old.pins) after))
    (λ net is. ap (λ (ids : ℕ → Bool). and_more header ids old.owed net) (ap (taken_with old) is ∙ sym ids))))

-- the pins follow
pub pins_next : (header : Header) (old : NetsReader) (width : ℕ) (after : Reading) → old.net.places.items ≡ [] → old.net.pin ≡ 0 →
    nets_left_at_width header old (Ok (width, after)) ≡ nets_left_at_pins header (record old { net = record old.net { width = width } }) old.net.owed after
unfolding pins_at
pins_next header old width after none first = rw (none, first) (ap (λ places. with_parts (nets_of old.nets.items) (and_nets header (λ _. contains nat_cmp old.taken) old.owed (net_behind_pins old.pins old.net.id old.net.name width places))) (sym (with_parts-none (parts_at (pin_at header old.net.id) 0 old.net.owed after))))

abbrev checked : {A : Type 0} → Option A → InputFault → Reading → InputRead A
checked o fault r = or_refuse o fault >>= λ v. Ok (v, r)

abbrev checked_read : {A : Type 0} → (ℤ → Option A) → (ℕ → InputFault) → InputRead Number → InputRead A
checked_read what fault read = read >>= λ x. checked (what x.0.value) (fault x.0.at) x.1

checked_same : {A B : Type 0} (o : Option A) (fault : InputFault) (behind : A → Reading → InputRead B) (r : Reading) →
    (or_refuse o fault >>= λ v. behind v r) ≡ (checked o fault r >>= λ v. behind v.0 v.1)
checked_same (Some x) fault behind r = refl
checked_same None fault behind r = refl

checked_then : {A B : Type 0} (what : ℤ → Option A) (fault : ℕ → InputFault) (behind : A → Reading → InputRead B) (read : InputRead Number) →
    (read >>= λ x. or_refuse (what x.0.value) (fault x.0.at) >>= λ v. behind v x.1) ≡ (checked_read what fault read >>= λ v. behind v.0 v.1)
checked_then what fault behind (Ok x) = checked_same (what x.0.value) (fault x.0.at) behind x.1
checked_then what fault behind (Err refusal) = refl

abbrev from_layer : Header → ℕ → ℕ → ℕ → ℕ → Reading → InputRead ℕ
from_layer header id pin col row r = do
  layer ← number_at r
  level ← or_refuse (within 1 header.extent.layers layer.0.value) (PinLayer layer.0.at id pin)
  Ok (vertex_at header.extent col row (level - 1), layer.1)

abbrev from_y : Header → ℕ → ℕ → ℕ → Reading → InputRead ℕ
from_y header id pin col r = do
  y ← number_at r
  row ← or_refuse (tile_along header.origin.1 header.tile.1 header.extent.rows y.0.value) (PinOutside y.0.at id pin)
  from_layer header id pin col row y.1

layer_split : (header : Header) (id pin col row : ℕ) (r : Reading) → from_layer header id pin col row r ≡ pin_behind_row header col row (pin_level_at header id pin r)
layer_split header id pin col row r = checked_then (within 1 header.extent.layers) (λ at. PinLayer at id pin) (λ level r. Ok (vertex_at header.extent col row (level - 1), r)) (number_at r)

y_split : (header : Header) (id pin col : ℕ) (r : Reading) → from_y header id pin col r ≡ pin_behind_column header id pin col (pin_row_at header id pin r)
y_split header id pin col r =
    let one = λ (v : ℕ × Reading). from_layer header id pin col v.0 v.1 in
    let two = λ (v : ℕ × Reading). pin_behind_row header col v.0 (pin_level_at header id pin v.1) in
    checked_then (tile_along header.origin.1 header.tile.1 header.extent.rows) (λ at. PinOutside at id pin) (λ row r. from_layer header id pin col row r) (number_at r)
    ∙ then_same (pin_row_at header id pin r) one two (every (pin_row_at header id pin r) (λ v. one v ≡ two v) (λ v. layer_split header id pin col v.0 v.1))

pin_split : (header : Header) (id pin : ℕ) (r : Reading) → pin_at header id pin r ≡ pin_behind_start header id pin (pin_column_at header id pin r)
unfolding pin_at
pin_split header id pin r =
    let one = λ (v : ℕ × Reading). from_y header id pin v.0 v.1 in
    let two = λ (v : ℕ × Reading). pin_behind_column header id pin v.0 (pin_row_at header id pin v.1) in
    checked_then (tile_along header.origin.0 header.tile.0 header.extent.cols) (λ at. PinOutside at id pin) (λ col r. from_y header id pin col r) (number_at r)
    ∙ then_same (pin_column_at header id pin r) one two (every (pin_column_at header id pin r) (λ v. one v ≡ two v) (λ v. y_split header id pin v.0 v.1))

-- the next pin
pub pin_next : (header : Header) (old : NetsReader) (k : ℕ) (r : Reading) → old.net.owed ≡ suc k →
    nets_left_at_pins header old old.net.owed r ≡ nets_left header (record old { net = record old.net { owed = k }; stage = stages.X }) r
unfolding nets_left
pin_next header old k r is = rw is (ap (λ one. nets_left_at_pin header (record old { net = record old.net { owed = k }; stage = stages.X }) one) (pin_split header old.net.id old.net.pin r))

-- a pin is read
pub pin_added : (header : Header) (old : NetsReader) (with : PresentNet) (col row level : ℕ) (vertex : Vertex) (after : Reading) →
    vertex.0 ≡ vertex_at header.extent col row (level - 1) → with.places.items ≡ old.net.places.items ++ vertex ∷ [] →
    nets_left_at_layer header old col row (Ok (level, after)) ≡ nets_left_at_pins header (record old { net = record old.net { places = with.places; pin = old.net.pin + 1 } }) old.net.owed after
pin_added header old with col row level vertex after is places =
    let ns = numbers old.net.places.items in
    let more = parts_at (pin_at header old.net.id) (old.net.pin + 1) old.net.owed after in
    let next : numbers with.places.items ≡ ns ++ vertex.0 ∷ [] = ap numbers places ∙ map_push (λ (v : Vertex). v.0) old.net.places.items vertex in
    ap (λ places. with_parts (nets_of old.nets.items) (and_nets header (λ _. contains nat_cmp old.taken) old.owed (net_behind_pins old.pins old.net.id old.net.name old.net.width places)))
    (with_parts-one ns (vertex_at header.extent col row (level - 1)) more ∙ ap (λ xs. with_parts xs more) (ap (λ v. ns ++ v ∷ []) (sym is) ∙ sym next))

-- ---- the begin and the end

-- nothing is read
pub nets_begin : (header : Header) (n : NetsReader) (r : Reading) → n.stage ≡ stages.Num → n.nets.items ≡ [] → ((q : ℕ) → contains nat_cmp n.taken q ≡ false) → n.pins ≡ 0 → nets_left header n r ≡ nets_at header r
unfolding nets_at
nets_begin header n r stage none free no_pins =
    let ids : contains nat_cmp n.taken ≡ (λ _. false) = fun_ext free in
    left_there stages.Num header n r stage ∙ rw (none, ids, no_pins) (with_parts-none (nets_at header r))

only_last : (s : NetStage) → is_last_stage s ≡ true → s ≡ stages.Done
only_last stages.Num last = absurd (cc)
only_last stages.Net last = absurd (cc)
only_last stages.Count last = absurd (cc)
only_last stages.Name last = absurd (cc)
only_last stages.Id last = absurd (cc)
only_last stages.PinCount last = absurd (cc)
only_last stages.Width last = absurd (cc)
only_last stages.X last = absurd (cc)
only_last (stages.Y col) last = absurd (cc)
only_last (stages.Layer col row) last = absurd (cc)
only_last stages.Done last = refl

-- all is read
pub nets_there : (header : Header) (n : NetsReader) (r : Reading) → is_last_stage n.stage ≡ true → nets_left header n r ≡ Ok (nets_of n.nets.items, r)
nets_there header n r last = left_there stages.Done header n r (only_last n.stage last)

-- the text ends
missing_at : (s : NetStage) (header : Header) (n : NetsReader) (r : Reading) → is_last_stage s ≡ false → tokens_left r ≡ [] → nets_left_at s header n r ≡ Err (Syntax (length r.text) (wanted_at_stage s))
unfolding number_within id_at
missing_at stages.Num header n r more none = rw (no_word wanted.Num r none) refl
missing_at stages.Net header n r more none = rw (no_word wanted.Net r none) refl
missing_at stages.Count header n r more none = rw (no_number r none) refl
missing_at stages.Name header n r more none = rw (no_name r none) refl
missing_at stages.Id header n r more none = rw (no_number r none) refl
missing_at stages.PinCount header n r more none = rw (no_number r none) refl
missing_at stages.Width header n r more none = rw (no_number r none) refl
missing_at stages.X header n r more none = rw (no_number r none) refl
missing_at (stages.Y col) header n r more none = rw (no_number r none) refl
missing_at (stages.Layer col row) header n r more none = rw (no_number r none) refl
missing_at stages.Done header n r more none = absurd (cc)

pub nets_missing : (header : Header) (n : NetsReader) → is_last_stage n.stage ≡ false → IsMissing (wanted_at_stage n.stage) (nets_left header n)
nets_missing header n more = λ r none. left_there n.stage header n r refl ∙ missing_at n.stage header n r more none
