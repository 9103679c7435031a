use Rattle.std.proofs.Common.{◌≡◌, length}
use Rattle.std.specs.List.{sum_by}
use Rattle.grid_base.specs.Numbers.{vertices}
use Rattle.reference_programs.specs.LowerNumbers.{listed_number}
use Rattle.reference_programs.proofs.Lowering.{AreReached}
use Rattle.reference_programs.proofs.reference_paths.reference_distances.Given as goal

abbrev pub invariant-loop-to : goal.invariant-loop-to
invariant-loop-to l = record {
  long : length l.numbers.items ≡ vertices l.size;
  reached : AreReached l.size l.pieces l.fn.source.0 (listed_number l.numbers.items);
}

abbrev pub decreases-loop-to : goal.decreases-loop-to
decreases-loop-to l = sum_by (λ n. n) l.numbers.items
