-- A text with edits names the design that the edits make.
use Rattle.std.proofs.Common.{◌≡◌, ℕ, ◌==◌, List, [], ◌∷◌, ◌++◌, map, cond, Ok, Some, refl, sym, ◌∙◌, ap, subst}
use Rattle.std.specs.Prelude.{filter, not, slice_set, unwrap_or}
use Rattle.std.proofs.lemmas.List.{map_push}
use Rattle.std.proofs.lemmas.Option.{same_Some}
use Rattle.edit_text.specs.declared.edit.Edit.{Edit}
use Rattle.edit_text.specs.declared.edit.Edit.TheVariants.{Drop, Add, Change}
use Rattle.edit_text.specs.declared.edit.Pin.{Pin}
use Rattle.grid_graph.specs.Alike.{AreAlikeDesigns}
use Rattle.grid_graph.specs.Grids.{capacity, first_capacity, layout_of}
use Rattle.grid_graph.specs.Terms.{numbers, without_repeats}
use Rattle.grid_graph.specs.declared.design.Design.{Design}
use Rattle.grid_graph.specs.declared.grid.Grid.{Grid}
use Rattle.grid_graph.specs.declared.net_spec.NetSpec.{NetSpec}
use Rattle.ispd_reader.proofs.Alike.{one_design}
use Rattle.ispd_reader.specs.Adjustments.{Adjustment, last_level}
use Rattle.ispd_reader.specs.Designs.{Contents, IsDesignOf, IsDesignOfText}
use Rattle.ispd_reader.specs.Header.{Header}
use Rattle.ispd_reader.specs.Nets.{Net}
use Rattle.ispd_reader.specs.Views.{header_of, net_of}
use Rattle.eco_route.proofs.Removed.{map-removed}
use Rattle.eco_route.specs.EditedDesigns.{AddsNet, ChangesNet, DropsNet, IsEditedDesign, IsNetOfPins}
use Rattle.eco_laws.specs.EditChains.{AreEdited}
use Rattle.eco_laws.specs.TextEdits.{edited_nets, IsEditedText, net_with, nets_after, vertices_of_pins}
use Rattle.eco_laws.proofs.EditedAlike.{grid_kept}
use Rattle.eco_laws.proofs.Lists.{At-mapped, At-unmapped, filter-once, IsKeyed, map-once, map-replaced}
use Rattle.eco_laws.proofs.Options.{mapped_of, then_of}
use Rattle.eco_laws.proofs.Pins.{pin_vertices-of_header}

-- the id of a net of a text
abbrev id_of : Net → ℕ
id_of n = n.id

-- no two nets of a design have one id
nets_keyed : (d : Design) → IsKeyed id_of (map net_of d.nets)
nets_keyed d i j x y at_x at_y same =
    let m = At-unmapped net_of d.nets i x at_x in
    let n = At-unmapped net_of d.nets j y at_y in
    d.limits.ids i j m.0 n.0 m.1 n.1 (ap id_of m.2 ∙ same ∙ sym (ap id_of n.2))

-- a net of pins, in the words of the text
net_of_pins : (g : Grid) (id width : ℕ) (name : List ℕ) (pins : List Pin) (vs : List ℕ) (n : NetSpec) → vertices_of_pins (header_of (layout_of g)) pins ≡ Some vs
    → IsNetOfPins g id name width pins n → net_of n ≡ net_with id name width vs
net_of_pins g id width name pins vs n found made =
    let terminals : numbers n.terminals ≡ without_repeats vs = made.placed ∙ ap without_repeats (pin_vertices-of_header g pins vs found) in
    rw (made.identified, made.called, made.wide, terminals) refl

module _ (d d' : Design) where
  abbrev nets : List Net
  nets = map net_of d.nets

  dropped : (id : ℕ) (ns : List Net) → DropsNet id d d' → nets_after (header_of (layout_of d.grid)) (Drop id) nets ≡ Some ns → map net_of d'.nets ≡ ns
  dropped id ns edited is =
      ap (λ (ms : List NetSpec). map net_of ms) edited.nets
      ∙ map-removed net_of d.nets edited.place
      ∙ sym (filter-once id_of nets edited.place id (net_of edited.net) (nets_keyed d) (At-mapped net_of d.nets edited.place edited.net edited.stands) edited.identified)
      ∙ same_Some (filter (λ n. not (n.id == id)) nets) ns is

  added : (name : List ℕ) (id width : ℕ) (pins : List Pin) (ns : List Net) → AddsNet name id width pins d d'
      → nets_after (header_of (layout_of d.grid)) (Add name id width pins) nets ≡ Some ns → map net_of d'.nets ≡ ns
  added name id width pins ns edited is =
      let found = mapped_of (λ vs. nets ++ net_with id name width vs ∷ []) (vertices_of_pins (header_of (layout_of d.grid)) pins) ns is in
      ap (λ (ms : List NetSpec). map net_of ms) edited.nets
      ∙ map_push net_of d.nets edited.net
      ∙ ap (λ n. nets ++ n ∷ []) (net_of_pins d.grid id width name pins found.0 edited.net found.1 edited.made)
      ∙ found.2

  changed : (id width : ℕ) (pins : List Pin) (ns : List Net) → ChangesNet id width pins d d'
      → nets_after (header_of (layout_of d.grid)) (Change id width pins) nets ≡ Some ns → map net_of d'.nets ≡ ns
  changed id width pins ns edited is =
      let found = mapped_of (λ vs. map (λ n. cond (n.id == id) (net_with id n.name width vs) n) nets) (vertices_of_pins (header_of (layout_of d.grid)) pins) ns is in
      ap (λ (ms : List NetSpec). map net_of ms) edited.nets
      ∙ map-replaced net_of d.nets edited.place edited.net
      ∙ ap (λ n. slice_set nets edited.place n) (net_of_pins d.grid id width edited.before.name pins found.0 edited.net found.1 edited.made)
      ∙ sym (map-once id_of (λ n. net_with id n.name width found.0) nets edited.place id (net_of edited.before) (nets_keyed d)
      (At-mapped net_of d.nets edited.place edited.before edited.stands) edited.identified)
      ∙ found.2

  -- the nets of an edited design are those of the text, edited
  nets_edited : (edit : Edit) (ns : List Net) → IsEditedDesign edit d d' → nets_after (header_of (layout_of d.grid)) edit nets ≡ Some ns → map net_of d'.nets ≡ ns
  nets_edited (Drop id) ns edited is = dropped id ns edited is
  nets_edited (Add name id width pins) ns edited is = added name id width pins ns edited is
  nets_edited (Change id width pins) ns edited is = changed id width pins ns edited is

-- the same of some edits; and the grid stays
all_nets_edited : (h : Header) (edits : List Edit) (d d' : Design) (ns : List Net) → header_of (layout_of d.grid) ≡ h → AreEdited edits d d'
    → edited_nets h edits (map net_of d.nets) ≡ Some ns → (d'.grid ≡ d.grid) × (map net_of d'.nets ≡ ns)
all_nets_edited h [] d d' ns headed edited is = (ap (λ (x : Design). x.grid) edited, ap (λ (x : Design). map net_of x.nets) edited ∙ same_Some (map net_of d.nets) ns is)
all_nets_edited h (edit ∷ edits) d d' ns headed edited is =
    let middle = edited.0 in
    let first = then_of (edited_nets h edits) (nets_after h edit (map net_of d.nets)) ns is in
    let kept : middle.grid ≡ d.grid = grid_kept edit d middle edited.1 in
    let read : nets_after (header_of (layout_of d.grid)) edit (map net_of d.nets) ≡ Some first.0 = ap (λ (k : Header). nets_after k edit (map net_of d.nets)) headed ∙ first.1 in
    let nets : map net_of middle.nets ≡ first.0 = nets_edited d middle edit first.0 edited.1 read in
    let rest = all_nets_edited h edits middle d' ns (ap (λ (g : Grid). header_of (layout_of g)) kept ∙ headed) edited.2 (ap (edited_nets h edits) nets ∙ first.2) in
    (rest.0 ∙ kept, rest.1)

-- ---- the law

module _ (old new : List ℕ) (edits : List Edit) (d d' : Design) (is : IsDesignOfText old d) (text : IsEditedText edits old new) (edited : AreEdited edits d d') where
  -- the design is what the first text says
  said : IsDesignOf d text.before
  said =
      let same : is.contents ≡ text.before = let both : Ok is.contents ≡ Ok text.before = sym is.read ∙ text.read in cc in
      subst (λ (c : Contents). IsDesignOf d c) same is.says

  both : (d'.grid ≡ d.grid) × (map net_of d'.nets ≡ text.after.nets)
  both =
      all_nets_edited text.before.header edits d d' text.after.nets said.header edited
      (ap (edited_nets text.before.header edits) said.nets ∙ text.nets)

  -- and the edited one what the second says
  says_after : IsDesignOf d' text.after
  says_after = record {
    header = ap (λ (g : Grid). header_of (layout_of g)) both.0 ∙ said.header ∙ sym text.header;
    capacities = subst (λ (g : Grid). (e : ℕ) → capacity g e ≡ unwrap_or (last_level e text.after.adjustments) (first_capacity g e)) (sym both.0)
        (subst (λ (listed : List Adjustment). (e : ℕ) → capacity d.grid e ≡ unwrap_or (last_level e listed) (first_capacity d.grid e)) (sym text.adjustments) said.capacities);
    nets = both.1;
  }

  pub edited_text_named : IsDesignOfText new d'
  edited_text_named = record { contents = text.after; read = text.read_anew; says = says_after }

  pub edited_text_alike : (e : Design) → IsDesignOfText new e → AreAlikeDesigns e d'
  edited_text_alike e named = one_design new e d' named edited_text_named
