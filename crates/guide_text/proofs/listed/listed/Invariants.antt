use Rattle.std.proofs.Common.{◌≡◌, take}
use Rattle.guide_text.specs.RouteTiles.{route_tiles}
use Rattle.guide_text.proofs.listed.listed.Given as goal

-- the terminals so far are listed behind the ends
abbrev pub invariant-loop-terminal : goal.invariant-loop-terminal
invariant-loop-terminal l = l.tiles.items ≡ route_tiles l.fn.size l.tree (take l.terminal-index l.terminals)
