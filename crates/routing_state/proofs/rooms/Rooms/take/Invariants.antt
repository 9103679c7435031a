use Rattle.routing_state.proofs.Giving.{IsGiven}
use Rattle.routing_state.proofs.rooms.Rooms.take.Given as goal

-- the edges so far are taken
abbrev pub invariant-loop-p : goal.invariant-loop-p
invariant-loop-p l = IsGiven l.grid l.width l.p-items l.p-index l.self.rooms.items l.initial.self.rooms.items
