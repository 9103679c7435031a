use Rattle.std.proofs.Common.{◌≡◌, take}
use Rattle.std.specs.Prelude.{flat_map}
use Rattle.guide_text.specs.RouteTiles.{ends_of}
use Rattle.guide_text.proofs.listed.ends_of_all.Given as goal

-- the ends of the pieces so far are listed
abbrev pub invariant-loop-piece : goal.invariant-loop-piece
invariant-loop-piece l = l.ends.items ≡ flat_map (ends_of l.size) (take l.piece-index l.tree)
