use Rattle.routing_state.proofs.Giving.{IsGiven}
use Rattle.routing_state.proofs.rooms.Rooms.give.Given as goal

-- the edges so far are given back
abbrev pub invariant-loop-p : goal.invariant-loop-p
invariant-loop-p l = IsGiven l.grid l.width l.p-items l.p-index l.initial.self.rooms.items l.self.rooms.items
