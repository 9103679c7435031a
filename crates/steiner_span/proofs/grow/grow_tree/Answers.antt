use Rattle.steiner_span.proofs.grow.grow_tree.Goals as goal

pub grow_by-requires-2-clause-left : goal.grow_by-requires-2-clause-left
grow_by-requires-2-clause-left g c = c.in_ok-ahead.ensures.left
