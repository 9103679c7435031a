use Rattle.std.proofs.Common.{◌<◌, length}
use Rattle.std.specs.List.{slice_range}
use Rattle.negotiation.specs.BatchSizes.{batch_size}
use Rattle.negotiation.specs.Chosen.{AreChosen}
use Rattle.negotiation.specs.Due.{IsDueNet}
use Rattle.negotiation.specs.Searches.{ArePlaces}
use Rattle.negotiation.proofs.batches.next_batch.Given as goal

-- the batch has the nets so far that are due, which are places of nets, and not its size
abbrev pub invariant-loop-at : goal.invariant-loop-at
invariant-loop-at l = record {
  places : ArePlaces l.design l.batch.items;
  chosen : AreChosen (IsDueNet l.design l.state l.tools.extents.items l.due) (slice_range l.order l.from l.at) l.batch.items;
  few : length l.batch.items < batch_size (length l.design.nets) (length l.order) l.due;
}
