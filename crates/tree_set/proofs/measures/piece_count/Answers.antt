use Rattle.tree_set.proofs.Counting.{length-pieces}
use Rattle.tree_set.proofs.measures.piece_count.Goals as goal

pub returns-clause-limit : goal.returns-clause-limit
returns-clause-limit c = rw c.pieces.ensures.listed (length-pieces c.args.size c.args.tree.now c.pieces.ensures.rising c.requires)
