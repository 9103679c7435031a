use Rattle.std.proofs.Common.{◌<◌, length}
use Rattle.steiner_exact.proofs.nearness.farthest.Given as goal

abbrev pub invariant-loop-i : goal.invariant-loop-i
invariant-loop-i l = l.far < length l.terminals
