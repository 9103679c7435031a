-- Edits of the text of a design: what they make of the nets that the text lists. No design is read here.
use Rattle.std.specs.Prelude.{ℕ, ◌-◌, ◌==◌, ◌≡◌, ◌++◌, not, List, [], ◌∷◌, filter, map, if◌then◌else◌, Option, Some, Ok, option_map, option_and_then}
use Rattle.std.specs.Option.{option_zip}
use Rattle.edit_text.specs.declared.edit.Edit.{Edit}
use Rattle.edit_text.specs.declared.edit.Edit.TheVariants.{Drop, Add, Change}
use Rattle.edit_text.specs.declared.edit.Pin.{Pin}
use Rattle.ispd_reader.specs.Designs.{Contents, contents_of}
use Rattle.ispd_reader.specs.Header.{Header}
use Rattle.ispd_reader.specs.Nets.{Net, tile_along, vertex_at, without_repeats}
use Rattle.text_scan.specs.Within.{within}

-- the vertex of a pin on the grid that a header names; none where the pin is outside it
abbrev pub vertex_of_pin : Header → Pin → Option ℕ
vertex_of_pin h pin =
    let col = tile_along h.origin.0 h.tile.0 h.extent.cols pin.x in
    let row = tile_along h.origin.1 h.tile.1 h.extent.rows pin.y in
    let layer = within 1 h.extent.layers pin.layer in
    option_map (λ v. vertex_at h.extent v.0.0 v.0.1 (v.1 - 1)) (option_zip (option_zip col row) layer)

-- the vertices of pins; none where one pin is outside
abbrev pub vertices_of_pins : Header → List Pin → Option (List ℕ)
vertices_of_pins h [] = Some []
vertices_of_pins h (pin ∷ pins) = option_map (λ vs. vs.0 ∷ vs.1) (option_zip (vertex_of_pin h pin) (vertices_of_pins h pins))

-- the net whose pins lie at these vertices
abbrev pub net_with : ℕ → List ℕ → ℕ → List ℕ → Net
net_with id name width vertices = record { id = id; name = name; width = width; terminals = without_repeats vertices }

-- what an edit makes of nets: a drop takes out the net with the id, an add appends a net, and a change keeps place, name and id;
-- none where a pin is outside
abbrev pub nets_after : Header → Edit → List Net → Option (List Net)
nets_after h (Drop id) nets = Some (filter (λ n. not (n.id == id)) nets)
nets_after h (Add name id width pins) nets = option_map (λ vs. nets ++ net_with id name width vs ∷ []) (vertices_of_pins h pins)
nets_after h (Change id width pins) nets =
    option_map (λ vs. map (λ n. if n.id == id then net_with id n.name width vs else n) nets) (vertices_of_pins h pins)

-- what edits make of nets, one after another
abbrev pub edited_nets : Header → List Edit → List Net → Option (List Net)
edited_nets h [] nets = Some nets
edited_nets h (edit ∷ edits) nets = option_and_then (edited_nets h edits) (nets_after h edit nets)

-- the second text says what the first one says, but that its nets are those of the first with the edits made
pub record IsEditedText (edits : List Edit) (old new : List ℕ) : Type 0 where
  pub before : Contents
  pub after : Contents
  pub read : contents_of old ≡ Ok before
  pub read_anew : contents_of new ≡ Ok after
  pub header : after.header ≡ before.header
  pub nets : edited_nets before.header edits before.nets ≡ Some after.nets
  pub adjustments : after.adjustments ≡ before.adjustments
