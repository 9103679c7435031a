use Rattle.std.proofs.Common.{arith}
use Rattle.steiner_exact.proofs.Attempts.{few_masks}
use Rattle.least_weights.proofs.least.least_by.Goals as goal

pub least_at_root-requires-clause-room : goal.least_at_root-requires-clause-room
least_at_root-requires-clause-room g c = omega (arith, few_masks c.args.terminals.now c.requires.few, c.requires.room, c.tree_guess.ensures.masks)

pub returns-clause-least : goal.returns-clause-least
returns-clause-least g c = c.least_at_root.ensures.least.lightest
