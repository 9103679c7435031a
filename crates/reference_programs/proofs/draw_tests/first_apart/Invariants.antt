use Rattle.steiner_exact.specs.TreeLabelWords.{AreTreeLabels}
use Rattle.reference_programs.proofs.draw_tests.first_apart.Given as goal

abbrev pub invariant-loop-number : goal.invariant-loop-number
invariant-loop-number l = AreTreeLabels l.size l.labels
