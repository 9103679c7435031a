use Rattle.std.proofs.Common.{◌≡◌, ◌<◌, ◌≤◌, ℕ, false, get_or, sym, ◌∙◌, ap, ⊎_elim, arith, subst}
use Rattle.std.proofs.lemmas.Bool.{cases_lt}
use Rattle.eco_route.specs.PinPlaces as places
use Rattle.eco_route.proofs.FirstPins.{no_pin, position-found, position-none, same_read}
use Rattle.eco_route.proofs.pins.first_outside.Goals as goal

pub returns-then-is_outside : goal.returns-then-is_outside
returns-then-is_outside c =
    sym (position-found (places.is_outside c.args.grid.now) c.args.pins.now c.loop-i.i no_pin c.loop-i-test.true
    (sym c.is_outside.ensures ∙ c.if-is_outside.true) (λ k. c.loop-i.invariant k no_pin))

pub loop-i-preserved : goal.loop-i-preserved
loop-i-preserved c k d below =
    let test = places.is_outside c.args.grid.now in
    let pins = c.args.pins.now in
    let i = c.loop-i.i in
    ⊎_elim
    (λ (early : k < i). c.loop-i.invariant k d early)
    (λ (late : i ≤ k).
    let here : k ≡ i = omega (arith, below, late) in
    subst (λ (j : ℕ). test (get_or pins j d) ≡ false) (sym here)
    (ap test (same_read pins i d no_pin c.loop-i-test.true) ∙ sym c.is_outside.ensures ∙ c.if-is_outside.false))
    (cases_lt k i)

pub returns : goal.returns
returns c =
    sym (position-none (places.is_outside c.args.grid.now) c.args.pins.now no_pin (λ k below. c.loop-i.invariant k no_pin (omega (arith, below, c.loop-i-test.false))))
