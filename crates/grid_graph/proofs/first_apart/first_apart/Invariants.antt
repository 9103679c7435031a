use Rattle.grid_graph.specs.Apart.{AreInOneComponent}
use Rattle.grid_graph.proofs.first_apart.first_apart.Given as goal

abbrev pub invariant-loop-i : goal.invariant-loop-i
invariant-loop-i l = AreInOneComponent l.components l.terminals l.i
