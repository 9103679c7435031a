use Rattle.std.proofs.Common.{◌≡◌, ℕ, ◌<◌, false, get_or}
use Rattle.edit_text.specs.declared.edit.Pin.{Pin}
use Rattle.eco_route.specs.PinPlaces.{is_off_layers}
use Rattle.eco_route.proofs.pins.first_off_layers.Given as goal

-- it is true of none of the pins so far
abbrev pub invariant-loop-i : goal.invariant-loop-i
invariant-loop-i l = (k : ℕ) (d : Pin) → k < l.i → is_off_layers l.grid (get_or l.pins k d) ≡ false
