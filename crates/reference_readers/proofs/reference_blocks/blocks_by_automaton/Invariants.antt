use Rattle.std.proofs.Common.{◌≡◌, ◌≤◌, ◌-◌, length, []}
use Rattle.reference_readers.specs.ReferenceBlocks.{at, text_left, left_at_name}
use Rattle.reference_readers.proofs.reference_blocks.blocks_by_automaton.Given as goal

abbrev pub invariant-loop-place : goal.invariant-loop-place
invariant-loop-place l = record {
  within : l.place ≤ length l.text;
  whole : text_left l.taken (at l.text l.place) ≡ left_at_name [] (at l.text 0);
}

abbrev pub decreases-loop-place : goal.decreases-loop-place
decreases-loop-place l = length l.text - l.place
