-- What a reader of the nets still has to read.
use Rattle.std.specs.Prelude.{ℕ, ◌+◌, ◌-◌, ◌==◌, ◌||◌, Bool, List, ◌∷◌, Result, Ok, IfOk}
use Rattle.std.specs.BTreeSet.{contains}
use Rattle.std.specs.Ordering.{nat_cmp}
use Rattle.text_scan.proofs.Parts.{with_parts}
use Rattle.grid_graph.specs.declared.grid.Grid.{Grid}
use Rattle.grid_graph.specs.Grids.{layout_of}
use Rattle.grid_graph.specs.Limits.{max_nets, max_pins}
use Rattle.design_tokens.specs.declared.cut_token.CutToken.{CutToken}
use Rattle.design_tokens.specs.declared.input_error.InputError.{InputError}
use Rattle.ispd_reader.specs.declared.net_stage.NetStage.{NetStage}
use Rattle.ispd_reader.specs.declared.net_stage.NetStage.TheVariants as stages
use Rattle.ispd_reader.specs.declared.nets_reader.NetsReader.{NetsReader}
use Rattle.design_tokens.specs.declared.wanted.Wanted.TheVariants as wanted
use Rattle.design_tokens.specs.Parsing.{Reading, InputRead, ◌>>=◌, parts_at}
use Rattle.design_tokens.specs.Numbers.{word_at, name_at, count_at}
use Rattle.ispd_reader.specs.Header.{Header}
use Rattle.ispd_reader.specs.NetStages.{is_last_stage, is_net_name}
use Rattle.ispd_reader.specs.Nets.{Net, id_at, net_width_at, pin_at, pins_at, more_nets_at, without_repeats}
pub use Rattle.ispd_reader.specs.NetsSoFar.{AreNetsOf}
use Rattle.ispd_reader.specs.PinParts.{pin_column_at, pin_row_at, pin_level_at, pin_behind_row, pin_behind_column, pin_behind_start}
use Rattle.design_tokens.specs.Steps.{TakesNext}
use Rattle.ispd_reader.specs.Views.{header_of, nets_of, numbers}

-- there are all nets
abbrev pub has_all_nets : NetsReader → Bool
has_all_nets n = is_last_stage n.stage

-- its next token is a name
abbrev pub awaits_name : NetsReader → Bool
awaits_name n = is_net_name n.stage

-- ---- the parts of a net, each by how the one before it reads

-- a net, and those behind it, where these ids are taken then
abbrev pub and_nets : Header → (ℕ → ℕ → Bool) → ℕ → InputRead (Net × ℕ) → InputRead (List Net)
and_nets header taken owed net = do
  net ← net
  more ← more_nets_at header (taken net.0.0.id) net.0.1 owed net.1
  Ok (net.0.0 ∷ more.0, more.1)

-- a net of this id, name and width, and how many pins there are with it
abbrev pub net_behind_pins : ℕ → ℕ → List ℕ → ℕ → InputRead (List ℕ) → InputRead (Net × ℕ)
net_behind_pins pins id name width places = do
  places ← places
  Ok ((record { id = id; name = name; width = width; terminals = without_repeats places.0 }, pins), places.1)

-- a net of so many pins
abbrev pub net_behind_width : Header → ℕ → ℕ → ℕ → List ℕ → InputRead ℕ → InputRead (Net × ℕ)
net_behind_width header pins count id name width = do
  width ← width
  net_behind_pins pins id name width.0 (pins_at header id count width.1)

-- a net of this id and name, where there are so many pins before it
abbrev pub net_behind_pin_count : Header → ℕ → ℕ → List ℕ → InputRead ℕ → InputRead (Net × ℕ)
net_behind_pin_count header pins id name count = do
  count ← count
  net_behind_width header (pins + count.0) count.0 id name (net_width_at header count.1)

-- a net of this name
abbrev pub net_behind_id : Header → ℕ → List ℕ → InputRead ℕ → InputRead (Net × ℕ)
net_behind_id header pins name id = do
  id ← id
  net_behind_pin_count header pins id.0 name (count_at (max_pins - pins) id.1)

-- a net
abbrev pub net_behind_name : Header → (ℕ → Bool) → ℕ → InputRead (List ℕ) → InputRead (Net × ℕ)
net_behind_name header taken pins name = do
  name ← name
  net_behind_id header pins name.0 (id_at taken name.1)

-- ---- all that is left, by how the next token reads

-- the nets so far, and then these
abbrev pub with_nets : NetsReader → InputRead (List Net) → InputRead (List Net)
with_nets n more = with_parts (nets_of n.nets.items) more

-- these ids, and this one
abbrev pub taken_with : NetsReader → ℕ → ℕ → Bool
taken_with n id other = other == id || contains nat_cmp n.taken other

-- so many nets
abbrev pub nets_left_of : Header → NetsReader → ℕ → Reading → InputRead (List Net)
nets_left_of header n count r = with_nets n (more_nets_at header (contains nat_cmp n.taken) n.pins count r)

-- how many nets
abbrev pub nets_left_at_count : Header → NetsReader → InputRead ℕ → InputRead (List Net)
nets_left_at_count header n count = with_nets n (count >>= λ count. more_nets_at header (contains nat_cmp n.taken) n.pins count.0 count.1)

-- the word `net`
abbrev pub nets_left_at_net : Header → NetsReader → InputRead (Unit {0}) → InputRead (List Net)
nets_left_at_net header n word = with_nets n (word >>= λ word. count_at max_nets word.1 >>= λ count. more_nets_at header (contains nat_cmp n.taken) n.pins count.0 count.1)

-- the word `num`
abbrev pub nets_left_at_num : Header → NetsReader → InputRead (Unit {0}) → InputRead (List Net)
nets_left_at_num header n word = with_nets n (word >>= λ word. word_at wanted.Net word.1 >>= λ word. count_at max_nets word.1 >>= λ count. more_nets_at header (contains nat_cmp n.taken) n.pins count.0 count.1)

-- the name of a net
abbrev pub nets_left_at_name : Header → NetsReader → InputRead (List ℕ) → InputRead (List Net)
nets_left_at_name header n name = with_nets n (and_nets header (taken_with n) n.owed (net_behind_name header (contains nat_cmp n.taken) n.pins name))

-- its id
abbrev pub nets_left_at_id : Header → NetsReader → InputRead ℕ → InputRead (List Net)
nets_left_at_id header n id = with_nets n (and_nets header (taken_with n) n.owed (net_behind_id header n.pins n.net.name id))

-- the present net, whose id is taken, and the nets behind it
abbrev pub nets_left_of_net : Header → NetsReader → InputRead (Net × ℕ) → InputRead (List Net)
nets_left_of_net header n net = with_nets n (and_nets header (λ _. contains nat_cmp n.taken) n.owed net)

-- how many pins it has
abbrev pub nets_left_at_pin_count : Header → NetsReader → InputRead ℕ → InputRead (List Net)
nets_left_at_pin_count header n count = nets_left_of_net header n (net_behind_pin_count header n.pins n.net.id n.net.name count)

-- its width
abbrev pub nets_left_at_width : Header → NetsReader → InputRead ℕ → InputRead (List Net)
nets_left_at_width header n width = nets_left_of_net header n (net_behind_width header n.pins n.net.owed n.net.id n.net.name width)

-- all of its pins
abbrev pub nets_left_of_pins : Header → NetsReader → InputRead (List ℕ) → InputRead (List Net)
nets_left_of_pins header n places = nets_left_of_net header n (net_behind_pins n.pins n.net.id n.net.name n.net.width (with_parts (numbers n.net.places.items) places))

-- so many pins
abbrev pub nets_left_at_pins : Header → NetsReader → ℕ → Reading → InputRead (List Net)
nets_left_at_pins header n count r = nets_left_of_pins header n (parts_at (pin_at header n.net.id) n.net.pin count r)

-- a pin, and those behind it
abbrev pub nets_left_at_pin : Header → NetsReader → InputRead ℕ → InputRead (List Net)
nets_left_at_pin header n one = nets_left_of_pins header n (one >>= λ one. parts_at (pin_at header n.net.id) (n.net.pin + 1) n.net.owed one.1 >>= λ more. Ok (one.0 ∷ more.0, more.1))

-- its x
abbrev pub nets_left_at_x : Header → NetsReader → InputRead ℕ → InputRead (List Net)
nets_left_at_x header n col = nets_left_at_pin header n (pin_behind_start header n.net.id n.net.pin col)

-- its y
abbrev pub nets_left_at_y : Header → NetsReader → ℕ → InputRead ℕ → InputRead (List Net)
nets_left_at_y header n col row = nets_left_at_pin header n (pin_behind_column header n.net.id n.net.pin col row)

-- its layer
abbrev pub nets_left_at_layer : Header → NetsReader → ℕ → ℕ → InputRead ℕ → InputRead (List Net)
nets_left_at_layer header n col row level = nets_left_at_pin header n (pin_behind_row header col row level)

-- what is left where this is next
abbrev pub nets_left_at : NetStage → Header → NetsReader → Reading → InputRead (List Net)
nets_left_at stages.Num header n r = nets_left_at_num header n (word_at wanted.Num r)
nets_left_at stages.Net header n r = nets_left_at_net header n (word_at wanted.Net r)
nets_left_at stages.Count header n r = nets_left_at_count header n (count_at max_nets r)
nets_left_at stages.Name header n r = nets_left_at_name header n (name_at r)
nets_left_at stages.Id header n r = nets_left_at_id header n (id_at (contains nat_cmp n.taken) r)
nets_left_at stages.PinCount header n r = nets_left_at_pin_count header n (count_at (max_pins - n.pins) r)
nets_left_at stages.Width header n r = nets_left_at_width header n (net_width_at header r)
nets_left_at stages.X header n r = nets_left_at_x header n (pin_column_at header n.net.id n.net.pin r)
nets_left_at (stages.Y col) header n r = nets_left_at_y header n col (pin_row_at header n.net.id n.net.pin r)
nets_left_at (stages.Layer col row) header n r = nets_left_at_layer header n col row (pin_level_at header n.net.id n.net.pin r)
nets_left_at stages.Done header n r = Ok (nets_of n.nets.items, r)

-- what is left of them, and all nets then
unfoldable pub nets_left : Header → NetsReader → Reading → InputRead (List Net)
nets_left header n r = nets_left_at n.stage header n r

-- the token is taken, or refused, and the nets so far are still nets of the grid
pub record TakesNet (grid : Grid) (c : CutToken) (result : Result (Unit {0}) InputError) (old new : NetsReader) : Type 0 where
  pub takes : TakesNext c result (nets_left (header_of (layout_of grid)) old) (nets_left (header_of (layout_of grid)) new)
  pub fits : IfOk result (λ _. AreNetsOf grid new)
