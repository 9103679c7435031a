use Rattle.std.proofs.Common.{◌<◌, ℕ}
use Rattle.brought_bounds.specs.MoatWords.{HasRoom}
use Rattle.brought_bounds.proofs.room.has_room_everywhere.Given as goal

abbrev pub invariant-loop-other : goal.invariant-loop-other
invariant-loop-other l = (other : ℕ) → other < l.other → HasRoom l.labels l.terminals l.radii l.place other
