use Rattle.std.proofs.Common.{◌≡◌, take}
use Rattle.std.specs.Prelude.{map}
use Rattle.routing_state.specs.Clipped.{clipped}
use Rattle.routing_state.proofs.rooms.clip_all.Given as goal

-- the rooms so far are clipped
abbrev pub invariant-loop-room : goal.invariant-loop-room
invariant-loop-room l = l.narrow.items ≡ map clipped (take l.room-index l.rooms)
