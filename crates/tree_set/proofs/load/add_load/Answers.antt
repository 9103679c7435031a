use Rattle.std.proofs.Common.{sym, subst}
use Rattle.grid_base.specs.Lists.{HasNoRepeats}
use Rattle.tree_set.proofs.Order.{rising_once}
use Rattle.tree_set.proofs.load.add_load.Goals as goal

pub add_pieces-requires-clause-once : goal.add_pieces-requires-clause-once
add_pieces-requires-clause-once c = subst HasNoRepeats (sym c.pieces.ensures.listed) (rising_once c.args.tree.now c.pieces.ensures.rising)
