use Rattle.std.proofs.Common.{◌≡◌, ◌<◌, ℕ, List, length, take, slice_index_or}
use Rattle.ripup_repair.proofs.Common.{filter, range_with_len, Piece, IsRising}
use Rattle.ripup_repair.proofs.RepairNets.{is_due}
use Rattle.ripup_repair.proofs.overfull.nets_to_repair.Given as goal

-- the positions so far
abbrev pub invariant-loop-position : goal.invariant-loop-position
invariant-loop-position l = record {
  found : l.positions.items ≡ filter (is_due l.design l.trees) (take l.position (range_with_len 0 (length l.trees)));
  rising : (k : ℕ) → k < l.position → (d : List Piece) → IsRising (slice_index_or l.trees k d);
}
