use Rattle.std.proofs.Common.{◌≡◌, ◌<◌, ℕ, All, length}
use Rattle.std.specs.List.{range_with_len}
use Rattle.negotiation.proofs.order.all_short_first.Given as goal

-- the places of the nets so far
abbrev pub invariant-loop-net : goal.invariant-loop-net
invariant-loop-net l = record {
  places : All (λ (k : ℕ). k < length l.extents) l.nets.items;
  all : l.nets.items ≡ range_with_len 0 l.net;
}
