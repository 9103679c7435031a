use Rattle.std.proofs.Common.{get_or, sym, ap, ◌∙◌}
use Rattle.steiner_exact.specs.declared.extent.Extent.{Extent}
use Rattle.steiner_exact.specs.Boxes.{none, with_number}
use Rattle.steiner_exact.proofs.BoxSides.{extent_none, extent_taken, extent_passed}
use Rattle.landmarks.specs.Numbers.{number_by}
use Rattle.landmarks.proofs.spans.span_of.Goals as goal
use Rattle.landmarks.proofs.spans.span_of.Goals.{then-has_terminal, else-has_terminal}

pub loop-place-init : goal.loop-place-init
loop-place-init c = sym (extent_none (number_by c.args.landmarks.now.numbers.items c.args.landmark) c.args.terminals.now c.args.mask)

pub loop-place-preserved : goal.loop-place-preserved
loop-place-preserved c =
    let f = number_by c.args.landmarks.now.numbers.items c.args.landmark in
    let terminals = c.args.terminals.now in
    let mask = c.args.mask in
    let n = c.loop-place.place in
    elim c.if-has_terminal.branch [
      | then-has_terminal w ↦
          w.span-is ∙ w.with-span.ensures ∙ ap (with_number c.loop-place.span) w.number.ensures
          ∙ ap (λ (e : Extent). with_number e (f (get_or terminals n none).0)) c.loop-place.invariant
          ∙ sym (extent_taken f terminals mask n (sym c.has_terminal.ensures ∙ w.if-has_terminal.true))
      | else-has_terminal w ↦
          w.span-is ∙ c.loop-place.invariant
          ∙ sym (extent_passed f terminals mask n (sym c.has_terminal.ensures ∙ w.if-has_terminal.false))
    ]
