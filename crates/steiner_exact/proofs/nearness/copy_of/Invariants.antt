use Rattle.std.proofs.Common.{◌≡◌, take}
use Rattle.steiner_exact.proofs.nearness.copy_of.Given as goal

-- the terminals so far
abbrev pub invariant-loop-terminal : goal.invariant-loop-terminal
invariant-loop-terminal l = l.copied.items ≡ take l.terminal-index l.terminals
