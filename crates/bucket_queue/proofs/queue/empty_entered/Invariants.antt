use Rattle.bucket_queue.specs.Waiting.{AreEmptied, KeepsEmpty}
use Rattle.bucket_queue.proofs.queue.empty_entered.Given as goal

abbrev pub invariant-loop-entry : goal.invariant-loop-entry
invariant-loop-entry g l = record {
  emptied : AreEmptied l.entries l.entry-index l.tops.items;
  kept : KeepsEmpty l.initial.tops.items l.tops.items;
}
