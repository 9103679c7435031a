use Rattle.std.proofs.Common.{get_or, sym, ap, ◌∙◌}
use Rattle.grid_base.specs.declared.place.Place.{Place}
use Rattle.grid_base.specs.Numbers.{place_at}
use Rattle.steiner_exact.specs.declared.terminal_box.TerminalBox.{TerminalBox}
use Rattle.steiner_exact.specs.Boxes.{none, with_place}
use Rattle.steiner_exact.proofs.BoxSteps.{box_none, box_taken, box_passed}
use Rattle.steiner_exact.proofs.boxes.box_of.Goals as goal
use Rattle.steiner_exact.proofs.boxes.box_of.Goals.{then-has_terminal, else-has_terminal}

pub loop-place-init : goal.loop-place-init
loop-place-init c = sym (box_none c.args.size c.args.terminals.now c.args.mask)

pub loop-place-preserved : goal.loop-place-preserved
loop-place-preserved c =
    let s = c.args.size in
    let terminals = c.args.terminals.now in
    let mask = c.args.mask in
    let n = c.loop-place.place in
    let here : Place = place_at s (get_or terminals n none).0 in
    elim c.if-has_terminal.branch [
      | then-has_terminal w ↦
          w.found-is ∙ w.with-found.ensures ∙ ap (with_place c.loop-place.found) w.place_of.ensures.place
          ∙ ap (λ (b : TerminalBox). with_place b here) c.loop-place.invariant ∙ sym (box_taken s terminals mask n (sym c.has_terminal.ensures ∙ w.if-has_terminal.true))
      | else-has_terminal w ↦
          w.found-is ∙ c.loop-place.invariant ∙ sym (box_passed s terminals mask n (sym c.has_terminal.ensures ∙ w.if-has_terminal.false))
    ]
