use Rattle.std.proofs.Common.{arith}
use Rattle.steiner_exact.proofs.Attempts.{few_masks}
use Rattle.reference_programs.proofs.weight_tests.label_of.Goals as goal

pub subsets-requires-clause-room : goal.subsets-requires-clause-room
subsets-requires-clause-room c = omega (arith, few_masks c.args.terminals.now c.requires.few, c.in_ok-labels.ensures.masks)
