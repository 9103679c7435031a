use Rattle.std.proofs.Common.{◌<◌, length}
use Rattle.reference_programs.proofs.span_tests.reference_spanning_weight.Given as goal

abbrev pub invariant-loop : goal.invariant-loop
invariant-loop l = 0 < length l.terminals → l.taken < length l.terminals
