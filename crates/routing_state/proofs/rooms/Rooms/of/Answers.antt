use Rattle.std.proofs.Common.{ap, ◌∙◌, arith}
use Rattle.std.specs.Prelude.{map}
use Rattle.grid_graph.specs.Grids.{capacity}
use Rattle.routing_state.specs.Clipped.{clipped}
use Rattle.routing_state.proofs.Overflows.{lacks-none}
use Rattle.routing_state.proofs.rooms.Rooms.of.Goals as goal

pub invariant_of-result-clause-sum : goal.invariant_of-result-clause-sum
invariant_of-result-clause-sum c =
    lacks-none c.loop-e.rooms.items (capacity c.args.grid.now) (λ e below. c.loop-e.invariant.each e (omega (arith, below, c.loop-e.invariant.long)))

pub invariant_of-result-clause-same : goal.invariant_of-result-clause-same
invariant_of-result-clause-same c = c.in_ok-narrow.ensures ∙ ap (map clipped) c.as_slice.ensures.value
