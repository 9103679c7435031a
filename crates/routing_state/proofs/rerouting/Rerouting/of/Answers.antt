use Rattle.std.proofs.Common.{◌≡◌, List, length, ap, arith}
use Rattle.grid_base.specs.declared.piece.Piece.{Piece}
use Rattle.routing_state.specs.declared.rerouting.Rerouting.{Rerouting}
use Rattle.routing_state.proofs.Fresh.{best_of-fresh, IsReroutingOf-fresh}
use Rattle.routing_state.proofs.rerouting.Rerouting.of.Goals as goal

pub returns-clause-of : goal.returns-clause-of
returns-clause-of c = λ d state.
    let made : Rerouting = record { state = c.args.state; saved = c.loop.saved; best = c.totals-best.result } in
    let long : length c.loop.saved.items ≡ length c.args.state.trees.items = omega (arith, c.loop.invariant.long, c.loop-test.false, c.loop.auto.counter-end, ap (length {A = List Piece}) c.trees-end.ensures) in
    IsReroutingOf-fresh d made state long c.loop.invariant.none c.totals-best.ensures.value

pub returns-clause-best : goal.returns-clause-best
returns-clause-best c =
    let made : Rerouting = record { state = c.args.state; saved = c.loop.saved; best = c.totals-best.result } in
    let long : length c.loop.saved.items ≡ length c.args.state.trees.items = omega (arith, c.loop.invariant.long, c.loop-test.false, c.loop.auto.counter-end, ap (length {A = List Piece}) c.trees-end.ensures) in
    best_of-fresh made long c.loop.invariant.none
