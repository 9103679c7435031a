use Rattle.price_workers.proofs.MarkSteps.{IsMarkedUpTo}
use Rattle.price_workers.proofs.changes.Changes.add_edges.Given as goal

-- the edges so far have a mark
abbrev pub invariant-loop-p : goal.invariant-loop-p
invariant-loop-p l = IsMarkedUpTo l.p-items l.p-index l.initial.self.marks.items l.self.marks.items
