use Rattle.std.proofs.Common.{◌<◌, length}
use Rattle.steiner_exact.proofs.nearness.next_nearest.Given as goal

abbrev pub invariant-loop-j : goal.invariant-loop-j
invariant-loop-j l = l.near < length l.terminals
