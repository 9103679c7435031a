use Rattle.routing_passes.specs.Passes.{pass_in}
use Rattle.routing_passes.specs.PassTurns.{IsWithinPart}
use Rattle.routing_passes.proofs.part.route_part.Given as goal

-- the turns so far have been
abbrev pub invariant-loop-turn : goal.invariant-loop-turn
invariant-loop-turn g l =
    IsWithinPart (pass_in l.fn.input) l.worker l.fn.share l.turn l.turn l.pricing
