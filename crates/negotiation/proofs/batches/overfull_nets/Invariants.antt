use Rattle.std.proofs.Common.{◌≤◌, length}
use Rattle.std.specs.List.{range_with_len}
use Rattle.negotiation.specs.Chosen.{AreChosen}
use Rattle.negotiation.specs.Due.{IsOverfullNet}
use Rattle.negotiation.specs.Searches.{ArePlaces}
use Rattle.negotiation.proofs.batches.overfull_nets.Given as goal

-- the list has the places of the nets so far that hold an overfull edge, each once
abbrev pub invariant-loop-net : goal.invariant-loop-net
invariant-loop-net l = record {
  places : ArePlaces l.design l.nets.items;
  chosen : AreChosen (IsOverfullNet l.design l.state) (range_with_len 0 l.net) l.nets.items;
  few : length l.nets.items ≤ l.net;
}
