use Rattle.least_weights.proofs.NearestLed.{FoundSoFar}
use Rattle.least_weights.proofs.nearest.found_goals.Given as goal

abbrev pub invariant-loop-terminal : goal.invariant-loop-terminal
invariant-loop-terminal l = FoundSoFar l.size l.flat l.limit l.terminals l.here.0 l.terminal-index l.found.items
