-- What edits make of alike designs is alike.
use Rattle.std.proofs.Common.{◌≡◌, ℕ, List, [], ◌∷◌, ◌++◌, refl, sym, ◌∙◌, ap, ap₂, subst}
use Rattle.std.specs.Prelude.{slice_set}
use Rattle.std.specs.List.{remove}
use Rattle.std.proofs.lemmas.Option.{same_Some}
use Rattle.edit_text.specs.declared.edit.Edit.{Edit}
use Rattle.edit_text.specs.declared.edit.Edit.TheVariants.{Drop, Add, Change}
use Rattle.edit_text.specs.declared.edit.Pin.{Pin}
use Rattle.grid_base.specs.Lists.{At}
use Rattle.grid_base.specs.declared.vertex.Vertex.{Vertex}
use Rattle.grid_base.proofs.SameNumbers.{same_vertices}
use Rattle.grid_graph.specs.Alike.{AreAlike, AreAlikeDesigns}
use Rattle.grid_graph.specs.Terms.{without_repeats}
use Rattle.grid_graph.specs.declared.design.Design.{Design}
use Rattle.grid_graph.specs.declared.grid.Grid.{Grid}
use Rattle.grid_graph.specs.declared.net_spec.NetSpec.{NetSpec}
use Rattle.grid_graph.proofs.Alike.{AreAlike-sym}
use Rattle.eco_route.specs.EditedDesigns.{AddsNet, ChangesNet, DropsNet, IsEditedDesign, IsNetOfPins}
use Rattle.eco_route.specs.PinPlaces.{pin_vertices}
use Rattle.eco_route.proofs.Accepted.{one_place}
use Rattle.eco_laws.specs.EditChains.{AreEdited}
use Rattle.eco_laws.proofs.Pins.{pins-alike}

pub turned : (d e : Design) → AreAlikeDesigns d e → AreAlikeDesigns e d
turned d e alike = record { grids = AreAlike-sym d.grid e.grid alike.grids; nets = sym alike.nets }

abbrev spec_of : ℕ → List ℕ → ℕ → List Vertex → NetSpec
spec_of id name width terminals = record { id = id; name = name; width = width; terminals = terminals }

-- nets with one id, name and width whose pins have the same vertices are one
pub one_net : (g h : Grid) (id width : ℕ) (name : List ℕ) (pins : List Pin) (m n : NetSpec) → pin_vertices g pins ≡ pin_vertices h pins
    → IsNetOfPins g id name width pins m → IsNetOfPins h id name width pins n → m ≡ n
one_net g h id width name pins m n same of_m of_n =
    let ids : m.id ≡ n.id = of_m.identified ∙ sym of_n.identified in
    let names : m.name ≡ n.name = of_m.called ∙ sym of_n.called in
    let widths : m.width ≡ n.width = of_m.wide ∙ sym of_n.wide in
    let terminals : m.terminals ≡ n.terminals = same_vertices m.terminals n.terminals (of_m.placed ∙ ap without_repeats same ∙ sym of_n.placed) in
    let parts : spec_of m.id m.name m.width m.terminals ≡ spec_of n.id n.name n.width n.terminals = rw (ids, names, widths, terminals) refl in
    parts

-- an edit keeps the grid
pub grid_kept : (edit : Edit) (d d' : Design) → IsEditedDesign edit d d' → d'.grid ≡ d.grid
grid_kept (Drop id) d d' edited = edited.grid
grid_kept (Add name id width pins) d d' edited = edited.grid
grid_kept (Change id width pins) d d' edited = edited.grid

module _ (d e d' e' : Design) (alike : AreAlikeDesigns d e) where
  -- what stands in the second design with this id stands in the first at the same place
  there : (id p q : ℕ) (m n : NetSpec) → At d.nets p m → m.id ≡ id → At e.nets q n → n.id ≡ id → (p ≡ q) × (m ≡ n)
  there id p q m n at_p first at_q second =
      let here : At d.nets q n = subst (λ (nets : List NetSpec). At nets q n) (sym alike.nets) at_q in
      let place : p ≡ q = one_place d id p q m n at_p here first second in
      (place, same_Some m n (sym (subst (λ (k : ℕ). At d.nets k m) place at_p) ∙ here))

  dropped_alike : (id : ℕ) → DropsNet id d d' → DropsNet id e e' → d'.nets ≡ e'.nets
  dropped_alike id one other =
      let same = there id one.place other.place one.net other.net one.stands one.identified other.stands other.identified in
      one.nets ∙ ap₂ (λ (nets : List NetSpec) (k : ℕ). remove nets k) alike.nets same.0 ∙ sym other.nets

  added_alike : (name : List ℕ) (id width : ℕ) (pins : List Pin) → AddsNet name id width pins d d' → AddsNet name id width pins e e' → d'.nets ≡ e'.nets
  added_alike name id width pins one other =
      let same : one.net ≡ other.net = one_net d.grid e.grid id width name pins one.net other.net (pins-alike d.grid e.grid pins alike.grids) one.made other.made in
      one.nets ∙ ap₂ (λ (nets : List NetSpec) (n : NetSpec). nets ++ n ∷ []) alike.nets same ∙ sym other.nets

  changed_alike : (id width : ℕ) (pins : List Pin) → ChangesNet id width pins d d' → ChangesNet id width pins e e' → d'.nets ≡ e'.nets
  changed_alike id width pins one other =
      let same = there id one.place other.place one.before other.before one.stands one.identified other.stands other.identified in
      let made : IsNetOfPins e.grid id one.before.name width pins other.net = subst (λ (n : NetSpec). IsNetOfPins e.grid id n.name width pins other.net) (sym same.1) other.made in
      let net : one.net ≡ other.net = one_net d.grid e.grid id width one.before.name pins one.net other.net (pins-alike d.grid e.grid pins alike.grids) one.made made in
      one.nets ∙ ap₂ (λ (nets : List NetSpec) (n : NetSpec). slice_set nets one.place n) alike.nets net ∙ ap (λ (k : ℕ). slice_set e.nets k other.net) same.0 ∙ sym other.nets

  nets_alike : (edit : Edit) → IsEditedDesign edit d d' → IsEditedDesign edit e e' → d'.nets ≡ e'.nets
  nets_alike (Drop id) one other = dropped_alike id one other
  nets_alike (Add name id width pins) one other = added_alike name id width pins one other
  nets_alike (Change id width pins) one other = changed_alike id width pins one other

  -- after an edit
  pub edited_alike : (edit : Edit) → IsEditedDesign edit d d' → IsEditedDesign edit e e' → AreAlikeDesigns d' e'
  edited_alike edit one other = record {
    grids = subst (λ (g : Grid). AreAlike g e'.grid) (sym (grid_kept edit d d' one)) (subst (λ (h : Grid). AreAlike d.grid h) (sym (grid_kept edit e e' other)) alike.grids);
    nets = nets_alike edit one other;
  }

-- after some edits
pub all_edited_alike : (edits : List Edit) (d e d' e' : Design) → AreAlikeDesigns d e → AreEdited edits d d' → AreEdited edits e e' → AreAlikeDesigns d' e'
all_edited_alike [] d e d' e' alike one other =
    subst (λ (x : Design). AreAlikeDesigns x e') (sym one) (subst (λ (x : Design). AreAlikeDesigns d x) (sym other) alike)
all_edited_alike (edit ∷ edits) d e d' e' alike one other =
    all_edited_alike edits one.0 other.0 d' e' (edited_alike d e one.0 other.0 alike edit one.1 other.1) one.2 other.2
