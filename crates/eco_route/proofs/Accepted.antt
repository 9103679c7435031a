-- Edits that nothing speaks against.
use Rattle.std.proofs.Common.{◌≡◌, ℕ, ◌+◌, ◌<◌, List, length, None, Some, sym, ◌∙◌, subst, ⊎_elim, arith}
use Rattle.std.specs.List.{remove}
use Rattle.std.proofs.lemmas.Option.{same_Some}
use Rattle.edit_text.specs.declared.edit.Edit.TheVariants.{Drop, Add, Change}
use Rattle.edit_text.specs.declared.edit.Pin.{Pin}
use Rattle.grid_base.specs.Lists.{At}
use Rattle.grid_base.specs.declared.vertex.Vertex.{Vertex}
use Rattle.grid_base.proofs.SameNumbers.{same_vertices}
use Rattle.grid_graph.specs.declared.design.Design.{Design}
use Rattle.grid_graph.specs.declared.grid.Grid.{Grid}
use Rattle.grid_graph.specs.declared.ground.Ground.{Ground}
use Rattle.grid_graph.specs.declared.ground.Ground.TheVariants.{WithChoked}
use Rattle.grid_graph.specs.declared.net_spec.NetSpec.{NetSpec}
use Rattle.grid_graph.specs.Grounds.{IsGround, JoinsTerminals}
use Rattle.grid_graph.specs.Limits.{max_nets, max_pins}
use Rattle.grid_graph.proofs.Grounds.{joins_with_choked}
use Rattle.eco_route.specs.declared.edit_fault.EditFault.{EditFault}
use Rattle.eco_route.specs.declared.edit_fault.EditFault.TheVariants.{UnknownId, DuplicateId, PinOutside, PinLayer, NetLimit, WidthLimit, Unreachable}
use Rattle.eco_route.specs.EditRefusals.{HasNet, HasNoNet, IsEditAccepted, IsNetAccepted, IsNetRefused, IsUnreachable, IsWireFault, terminals_of}
use Rattle.eco_route.specs.EditedDesigns.{IsNetOfPins}

-- one net stands at one place, and one id is at one place
pub one_place : (d : Design) (id p q : ℕ) (m n : NetSpec) → At d.nets p m → At d.nets q n → m.id ≡ id → n.id ≡ id → p ≡ q
one_place d id p q m n at_p at_q first second = d.limits.ids p q m n at_p at_q (first ∙ sym second)

-- the pins of a net that is accepted, its limits and its width have no fault
pub no_wire_fault : (g : Grid) (nets others width : ℕ) (pins : List Pin) (f : EditFault) → IsNetAccepted g nets others width pins → ¬ IsWireFault g nets others width pins f
no_wire_fault g nets others width pins (UnknownId id) accepted fault = fault
no_wire_fault g nets others width pins (DuplicateId id) accepted fault = fault
no_wire_fault g nets others width pins (PinOutside pin) accepted fault = let off : None ≡ Some pin = sym accepted.placed.inside ∙ fault in cc
no_wire_fault g nets others width pins (PinLayer pin) accepted fault = let off : None ≡ Some pin = sym accepted.placed.on_layers ∙ fault.1 in cc
no_wire_fault g nets others width pins NetLimit accepted fault =
    ⊎_elim
    (λ (nets_too_many : max_nets < nets). omega (arith, nets_too_many, accepted.within.nets_fit))
    (λ (pins_too_many : max_pins < others + length pins). omega (arith, pins_too_many, accepted.within.pins_fit))
    fault.1
no_wire_fault g nets others width pins WidthLimit accepted fault = fault.2 accepted.wide
no_wire_fault g nets others width pins (Unreachable terminal) accepted fault = fault

-- a net of the same pins has the same terminals, so it is joined where this one is
still_joined : (g : Grid) (nets others width : ℕ) (name : List ℕ) (id terminal : ℕ) (pins : List Pin) (net : NetSpec) (over : Ground)
    → IsNetOfPins g id name width pins net → IsGround g net.terminals over → ¬ IsUnreachable g nets others name id width pins terminal
still_joined g nets others width name id terminal pins net over made found cut =
    let same : net.terminals ≡ cut.net.terminals = same_vertices net.terminals cut.net.terminals (made.placed ∙ sym cut.made.placed) in
    cut.cut_off.apart (subst (λ (terminals : List Vertex). JoinsTerminals g WithChoked terminals) same (joins_with_choked g net.terminals over found))

-- nothing speaks against a net that is accepted and has a ground
pub net_not_refused : (g : Grid) (nets others width : ℕ) (name : List ℕ) (id : ℕ) (pins : List Pin) (net : NetSpec) (over : Ground) (f : EditFault)
    → IsNetAccepted g nets others width pins → IsNetOfPins g id name width pins net → IsGround g net.terminals over → ¬ IsNetRefused g nets others name id width pins f
net_not_refused g nets others width name id pins net over f accepted made found refused =
    ⊎_elim
    (λ fault. no_wire_fault g nets others width pins f accepted fault)
    (λ cut. still_joined g nets others width name id cut.0 pins net over made found cut.2)
    refused

-- the same of numbers that are equal
accepted_with : (g : Grid) (nets count others terminals width : ℕ) (pins : List Pin) → nets ≡ count → others ≡ terminals → IsNetAccepted g nets others width pins → IsNetAccepted g count terminals width pins
accepted_with g nets count others terminals width pins same also accepted = rw (sym same, sym also) accepted

-- a drop of a net that is there
pub drop_accepted : (d : Design) (id place : ℕ) (net : NetSpec) → At d.nets place net → net.id ≡ id → IsEditAccepted d (Drop id)
drop_accepted d id place net stands identified f refused = refused.0 place net stands identified

-- an add of an id that is free
pub add_accepted : (d : Design) (name : List ℕ) (id width : ℕ) (pins : List Pin) (nets others : ℕ) (net : NetSpec) (over : Ground) → nets ≡ length d.nets + 1 → others ≡ terminals_of d.nets
    → HasNoNet d.nets id → IsNetAccepted d.grid nets others width pins → IsNetOfPins d.grid id name width pins net → IsGround d.grid net.terminals over → IsEditAccepted d (Add name id width pins)
add_accepted d name id width pins nets others net over count terminals free accepted made found f refused =
    ⊎_elim
    (λ taken. free taken.0 taken.1 taken.2.stands taken.2.identified)
    (λ later. net_not_refused d.grid (length d.nets + 1) (terminals_of d.nets) width name id pins net over f (accepted_with d.grid nets (length d.nets + 1) others (terminals_of d.nets) width pins count terminals accepted) made found later.1)
    refused

-- what a change is refused for, whichever way its net was found
pub same_change : (d : Design) (id width p q : ℕ) (pins : List Pin) (m n : NetSpec) (f : EditFault) → HasNet d.nets id p m → HasNet d.nets id q n
    → IsNetRefused d.grid (length d.nets) (terminals_of (remove d.nets p)) m.name id width pins f
    → IsNetRefused d.grid (length d.nets) (terminals_of (remove d.nets q)) n.name id width pins f
same_change d id width p q pins m n f first second is =
    let same : q ≡ p = one_place d id q p n m second.stands first.stands second.identified first.identified in
    let one : n ≡ m = same_Some n m (sym second.stands ∙ subst (λ (k : ℕ). At d.nets k m) (sym same) first.stands) in
    rw (same, one) is

-- a change of a net that is there
pub change_accepted : (d : Design) (p : ℕ) (before : NetSpec) (id width : ℕ) (pins : List Pin) (nets others : ℕ) (net : NetSpec) (over : Ground) → At d.nets p before → before.id ≡ id
    → nets ≡ length d.nets → others ≡ terminals_of (remove d.nets p) → IsNetAccepted d.grid nets others width pins → IsNetOfPins d.grid id before.name width pins net
    → IsGround d.grid net.terminals over → IsEditAccepted d (Change id width pins)
change_accepted d p before id width pins nets others net over stands identified count terminals accepted made found f refused =
    let has : HasNet d.nets id p before = record { stands = stands; identified = identified } in
    ⊎_elim
    (λ unknown. unknown.0 p before stands identified)
    (λ later. net_not_refused d.grid (length d.nets) (terminals_of (remove d.nets p)) width before.name id pins net over f
    (accepted_with d.grid nets (length d.nets) others (terminals_of (remove d.nets p)) width pins count terminals accepted) made found
    (same_change d id width later.0 p pins later.1 before f later.2 has later.3))
    refused
