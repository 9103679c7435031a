-- An edit of a design is refused for one fault.
use Rattle.std.proofs.Common.{◌≡◌, ℕ, ◌+◌, ◌<◌, List, length, None, Some, refl, sym, ◌∙◌, ap, subst, ⊎_elim, arith}
use Rattle.std.specs.Prelude.{◌⊎◌}
use Rattle.std.specs.List.{position, remove}
use Rattle.std.proofs.lemmas.Option.{same_Some}
use Rattle.edit_text.specs.declared.edit.Edit.{Edit}
use Rattle.edit_text.specs.declared.edit.Edit.TheVariants.{Drop, Add, Change}
use Rattle.edit_text.specs.declared.edit.Pin.{Pin}
use Rattle.grid_graph.proofs.CutOff.{cut_off-once}
use Rattle.grid_graph.specs.Grounds.{IsCutOff}
use Rattle.grid_graph.specs.Limits.{max_nets, max_pins}
use Rattle.grid_graph.specs.declared.design.Design.{Design}
use Rattle.grid_graph.specs.declared.grid.Grid.{Grid}
use Rattle.grid_graph.specs.declared.net_spec.NetSpec.{NetSpec}
use Rattle.eco_route.specs.declared.edit_fault.EditFault.{EditFault}
use Rattle.eco_route.specs.declared.edit_fault.EditFault.TheVariants.{UnknownId, DuplicateId, PinOutside, PinLayer, NetLimit, WidthLimit, Unreachable}
use Rattle.eco_route.specs.EditRefusals.{AreOnGrid, AreWithinLimits, HasNet, HasNoNet, IsNetRefused, IsRefusedFor, IsUnreachable, IsWireFault, terminals_of}
use Rattle.eco_route.specs.PinPlaces.{is_off_layers, is_outside}
use Rattle.eco_route.proofs.Accepted.{no_wire_fault, same_change}
use Rattle.eco_laws.proofs.EditedAlike.{one_net}

module _ (g : Grid) (nets others width : ℕ) (pins : List Pin) where
  none_outside : (pin : ℕ) → AreOnGrid g pins → ¬ (position (is_outside g) pins ≡ Some pin)
  none_outside pin on found = let off : None ≡ Some pin = sym on.inside ∙ found in cc

  none_off_layers : (pin : ℕ) → AreOnGrid g pins → ¬ (position (is_off_layers g) pins ≡ Some pin)
  none_off_layers pin on found = let off : None ≡ Some pin = sym on.on_layers ∙ found in cc

  not_both : (pin other : ℕ) → position (is_outside g) pins ≡ Some pin → ¬ IsWireFault g nets others width pins (PinLayer other)
  not_both pin other found off = let both : None ≡ Some pin = sym off.0 ∙ found in cc

  over_limits : AreWithinLimits nets others pins → ¬ ((max_nets < nets) ⊎ (max_pins < others + length pins))
  over_limits within = λ over.
      ⊎_elim
      (λ (many_nets : max_nets < nets). omega (arith, many_nets, within.nets_fit))
      (λ (many_pins : max_pins < others + length pins). omega (arith, many_pins, within.pins_fit))
      over

  -- two faults of pins, limits and width are one
  one_wire_fault : (f k : EditFault) → IsWireFault g nets others width pins f → IsWireFault g nets others width pins k → f ≡ k
  one_wire_fault (UnknownId id) k one other = absurd one
  one_wire_fault (DuplicateId id) k one other = absurd one
  one_wire_fault (Unreachable terminal) k one other = absurd one
  one_wire_fault (PinOutside i) (UnknownId id) one other = absurd other
  one_wire_fault (PinOutside i) (DuplicateId id) one other = absurd other
  one_wire_fault (PinOutside i) (PinOutside j) one other = ap (λ pin. PinOutside pin) (same_Some i j (sym one ∙ other))
  one_wire_fault (PinOutside i) (PinLayer j) one other = absurd (not_both i j one other)
  one_wire_fault (PinOutside i) NetLimit one other = absurd (none_outside i other.0 one)
  one_wire_fault (PinOutside i) WidthLimit one other = absurd (none_outside i other.0 one)
  one_wire_fault (PinOutside i) (Unreachable terminal) one other = absurd other
  one_wire_fault (PinLayer i) (UnknownId id) one other = absurd other
  one_wire_fault (PinLayer i) (DuplicateId id) one other = absurd other
  one_wire_fault (PinLayer i) (PinOutside j) one other = absurd (not_both j i other one)
  one_wire_fault (PinLayer i) (PinLayer j) one other = ap (λ pin. PinLayer pin) (same_Some i j (sym one.1 ∙ other.1))
  one_wire_fault (PinLayer i) NetLimit one other = absurd (none_off_layers i other.0 one.1)
  one_wire_fault (PinLayer i) WidthLimit one other = absurd (none_off_layers i other.0 one.1)
  one_wire_fault (PinLayer i) (Unreachable terminal) one other = absurd other
  one_wire_fault NetLimit (UnknownId id) one other = absurd other
  one_wire_fault NetLimit (DuplicateId id) one other = absurd other
  one_wire_fault NetLimit (PinOutside j) one other = absurd (none_outside j one.0 other)
  one_wire_fault NetLimit (PinLayer j) one other = absurd (none_off_layers j one.0 other.1)
  one_wire_fault NetLimit NetLimit one other = refl
  one_wire_fault NetLimit WidthLimit one other = absurd (over_limits other.1 one.1)
  one_wire_fault NetLimit (Unreachable terminal) one other = absurd other
  one_wire_fault WidthLimit (UnknownId id) one other = absurd other
  one_wire_fault WidthLimit (DuplicateId id) one other = absurd other
  one_wire_fault WidthLimit (PinOutside j) one other = absurd (none_outside j one.0 other)
  one_wire_fault WidthLimit (PinLayer j) one other = absurd (none_off_layers j one.0 other.1)
  one_wire_fault WidthLimit NetLimit one other = absurd (over_limits one.1 other.1)
  one_wire_fault WidthLimit WidthLimit one other = refl
  one_wire_fault WidthLimit (Unreachable terminal) one other = absurd other

  module _ (name : List ℕ) (id : ℕ) where
    -- two terminals that are named as unreachable are one
    one_terminal : (s t : ℕ) → IsUnreachable g nets others name id width pins s → IsUnreachable g nets others name id width pins t → s ≡ t
    one_terminal s t one other =
        let same : one.net ≡ other.net = one_net g g id width name pins one.net other.net refl one.made other.made in
        (cut_off-once g other.net id id s t (subst (λ (n : NetSpec). IsCutOff g n id s) same one.cut_off) other.cut_off).1

    -- two faults of a net that is to come or to change are one
    pub one_net_fault : (f k : EditFault) → IsNetRefused g nets others name id width pins f → IsNetRefused g nets others name id width pins k → f ≡ k
    one_net_fault f k one other =
        ⊎_elim
        (λ fault. ⊎_elim
        (λ also. one_wire_fault f k fault also)
        (λ cut. absurd (no_wire_fault g nets others width pins f cut.2.accepted fault))
        other)
        (λ cut. ⊎_elim
        (λ fault. absurd (no_wire_fault g nets others width pins k cut.2.accepted fault))
        (λ also. cut.1 ∙ ap (λ terminal. Unreachable terminal) (one_terminal cut.0 also.0 cut.2 also.2) ∙ sym also.1)
        other)
        one

-- an id that a net has is not free
taken_or_free : (nets : List NetSpec) (id place : ℕ) (net : NetSpec) → HasNet nets id place net → ¬ HasNoNet nets id
taken_or_free nets id place net has none = none place net has.stands has.identified

-- two faults of an edit are one
pub one_refusal : (d : Design) (edit : Edit) (f k : EditFault) → IsRefusedFor d edit f → IsRefusedFor d edit k → f ≡ k
one_refusal d (Drop id) f k one other = one.1 ∙ sym other.1
one_refusal d (Add name id width pins) f k one other =
    ⊎_elim
    (λ taken. ⊎_elim
    (λ also. taken.3 ∙ sym also.3)
    (λ free. absurd (taken_or_free d.nets id taken.0 taken.1 taken.2 free.0))
    other)
    (λ free. ⊎_elim
    (λ taken. absurd (taken_or_free d.nets id taken.0 taken.1 taken.2 free.0))
    (λ also. one_net_fault d.grid (length d.nets + 1) (terminals_of d.nets) width pins name id f k free.1 also.1)
    other)
    one
one_refusal d (Change id width pins) f k one other =
    ⊎_elim
    (λ unknown. ⊎_elim
    (λ also. unknown.1 ∙ sym also.1)
    (λ known. absurd (taken_or_free d.nets id known.0 known.1 known.2 unknown.0))
    other)
    (λ known. ⊎_elim
    (λ unknown. absurd (taken_or_free d.nets id known.0 known.1 known.2 unknown.0))
    (λ also. one_net_fault d.grid (length d.nets) (terminals_of (remove d.nets known.0)) width pins known.1.name id f k known.3
    (same_change d id width also.0 known.0 pins also.1 known.1 k also.2 known.2 also.3))
    other)
    one
