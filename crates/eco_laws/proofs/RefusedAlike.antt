-- An edit is refused for the same fault on alike designs.
use Rattle.std.proofs.Common.{◌≡◌, ◌↔◌, ℕ, ◌+◌, ◌<◌, ◌≤◌, List, length, sym, ◌∙◌, ap, subst, inl, inr, ⊎_elim}
use Rattle.std.specs.Prelude.{◌||◌, int_lt, is_none, pos, slice_index}
use Rattle.std.specs.List.{position, remove}
use Rattle.std.specs.Option.{option_zip}
use Rattle.edit_text.specs.declared.edit.Edit.{Edit}
use Rattle.edit_text.specs.declared.edit.Edit.TheVariants.{Drop, Add, Change}
use Rattle.edit_text.specs.declared.edit.Pin.{Pin}
use Rattle.grid_base.specs.Numbers.{cols, layers, rows}
use Rattle.grid_graph.proofs.Alike.{AreAlike-sym, IsCutOff-alike}
use Rattle.grid_graph.specs.Alike.{AreAlike, AreAlikeDesigns}
use Rattle.grid_graph.specs.Grids.{IsNetWidth}
use Rattle.grid_graph.specs.Layouts.{Layout}
use Rattle.grid_graph.specs.Limits.{max_demand}
use Rattle.grid_graph.specs.Terms.{without_repeats}
use Rattle.grid_graph.specs.Tiles.{tile_index}
use Rattle.grid_graph.specs.declared.design.Design.{Design}
use Rattle.grid_graph.specs.declared.grid.Grid.{Grid}
use Rattle.grid_graph.specs.declared.net_spec.NetSpec.{NetSpec}
use Rattle.eco_route.specs.declared.edit_fault.EditFault.{EditFault}
use Rattle.eco_route.specs.declared.edit_fault.EditFault.TheVariants.{UnknownId, DuplicateId, PinOutside, PinLayer, NetLimit, WidthLimit, Unreachable}
use Rattle.eco_route.specs.EditRefusals.{AreOnGrid, HasNet, HasNoNet, IsNetAccepted, IsNetRefused, IsRefusedFor, IsUnreachable, IsWireFault, terminals_of}
use Rattle.eco_route.specs.EditedDesigns.{IsNetOfPins}
use Rattle.eco_route.specs.PinPlaces.{is_off_layers, is_outside}
use Rattle.eco_laws.proofs.EditedAlike.{turned}
use Rattle.eco_laws.proofs.Pins.{pins-alike}

module _ (g h : Grid) (alike : AreAlike g h) where
  outside_alike : (pins : List Pin) → position (is_outside g) pins ≡ position (is_outside h) pins
  outside_alike pins =
      ap (λ (y : Layout). position (λ pin. is_none (option_zip (tile_index y.origin.0 y.tile.0 (cols y.size) pin.x) (tile_index y.origin.1 y.tile.1 (rows y.size) pin.y))) pins) alike.layout

  off_layers_alike : (pins : List Pin) → position (is_off_layers g) pins ≡ position (is_off_layers h) pins
  off_layers_alike pins = ap (λ (y : Layout). position (λ pin. int_lt pin.layer (pos 1) || int_lt (pos (layers y.size)) pin.layer) pins) alike.layout

  on_grid_alike : (pins : List Pin) → AreOnGrid g pins → AreOnGrid h pins
  on_grid_alike pins on = record { inside = sym (outside_alike pins) ∙ on.inside; on_layers = sym (off_layers_alike pins) ∙ on.on_layers }

  wide_alike : (width : ℕ) → IsNetWidth g width → IsNetWidth h width
  wide_alike width wide = subst (λ (y : Layout). (l : ℕ) → l < layers y.size → width + slice_index y.spacings l ≤ max_demand) alike.layout wide

module _ (g h : Grid) (alike : AreAlike g h) (nets others width : ℕ) (pins : List Pin) where
  accepted_alike : IsNetAccepted g nets others width pins → IsNetAccepted h nets others width pins
  accepted_alike accepted = record { placed = on_grid_alike g h alike pins accepted.placed; within = accepted.within; wide = wide_alike g h alike width accepted.wide }

  wire_fault_alike : (f : EditFault) → IsWireFault g nets others width pins f → IsWireFault h nets others width pins f
  wire_fault_alike (UnknownId id) is = is
  wire_fault_alike (DuplicateId id) is = is
  wire_fault_alike (PinOutside pin) is = sym (outside_alike g h alike pins) ∙ is
  wire_fault_alike (PinLayer pin) is = (sym (outside_alike g h alike pins) ∙ is.0, sym (off_layers_alike g h alike pins) ∙ is.1)
  wire_fault_alike NetLimit is = (on_grid_alike g h alike pins is.0, is.1)
  wire_fault_alike WidthLimit is = (on_grid_alike g h alike pins is.0, is.1, λ wide. is.2 (wide_alike h g (AreAlike-sym g h alike) width wide))
  wire_fault_alike (Unreachable terminal) is = is

  module _ (name : List ℕ) (id : ℕ) where
    made_alike : (n : NetSpec) → IsNetOfPins g id name width pins n → IsNetOfPins h id name width pins n
    made_alike n made = record { identified = made.identified; called = made.called; wide = made.wide; placed = made.placed ∙ ap without_repeats (pins-alike g h pins alike) }

    unreachable_alike : (terminal : ℕ) → IsUnreachable g nets others name id width pins terminal → IsUnreachable h nets others name id width pins terminal
    unreachable_alike terminal is = record {
      accepted = accepted_alike is.accepted;
      net = is.net;
      made = made_alike is.net is.made;
      cut_off = IsCutOff-alike g h is.net id terminal alike is.cut_off;
    }

    pub net_refused_alike : (f : EditFault) → IsNetRefused g nets others name id width pins f → IsNetRefused h nets others name id width pins f
    net_refused_alike f is = ⊎_elim (λ fault. inl (wire_fault_alike f fault)) (λ cut. inr (cut.0, cut.1, unreachable_alike cut.0 cut.2)) is

refused_too : (d e : Design) (edit : Edit) (f : EditFault) → AreAlikeDesigns d e → IsRefusedFor d edit f → IsRefusedFor e edit f
refused_too d e (Drop id) f alike is = (subst (λ (nets : List NetSpec). HasNoNet nets id) alike.nets is.0, is.1)
refused_too d e (Add name id width pins) f alike is =
    ⊎_elim
    (λ taken. inl (taken.0, taken.1, subst (λ (nets : List NetSpec). HasNet nets id taken.0 taken.1) alike.nets taken.2, taken.3))
    (λ free. inr (
      subst (λ (nets : List NetSpec). HasNoNet nets id) alike.nets free.0,
      net_refused_alike d.grid e.grid alike.grids (length e.nets + 1) (terminals_of e.nets) width pins name id f
          (subst (λ (nets : List NetSpec). IsNetRefused d.grid (length nets + 1) (terminals_of nets) name id width pins f) alike.nets free.1),
    ))
    is
refused_too d e (Change id width pins) f alike is =
    ⊎_elim
    (λ unknown. inl (subst (λ (nets : List NetSpec). HasNoNet nets id) alike.nets unknown.0, unknown.1))
    (λ known. inr (
      known.0,
      known.1,
      subst (λ (nets : List NetSpec). HasNet nets id known.0 known.1) alike.nets known.2,
      net_refused_alike d.grid e.grid alike.grids (length e.nets) (terminals_of (remove e.nets known.0)) width pins known.1.name id f
          (subst (λ (nets : List NetSpec). IsNetRefused d.grid (length nets) (terminals_of (remove nets known.0)) known.1.name id width pins f) alike.nets known.3),
    ))
    is

pub refused_alike : (edit : Edit) (d e : Design) (f : EditFault) → AreAlikeDesigns d e → IsRefusedFor d edit f ↔ IsRefusedFor e edit f
refused_alike edit d e f alike = (refused_too d e edit f alike, refused_too e d edit f (turned d e alike))
