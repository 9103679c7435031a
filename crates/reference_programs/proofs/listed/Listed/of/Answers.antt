use Rattle.std.proofs.Common.{refl}
use Rattle.reference_programs.proofs.LeastOver.{least_over-under}
use Rattle.reference_programs.proofs.listed.Listed.of.Goals as goal

pub invariant_of-result : goal.invariant_of-result
invariant_of-result c = record {
  different = rw c.as_slice.ensures.value at (c.if-are_different.ensures refl);
  inside = rw c.as_slice-then-are_different.ensures.value at (c.if-are_light_pieces.ensures.inside refl);
  light = rw c.as_slice-then-are_different.ensures.value at (c.if-are_light_pieces.ensures.light refl);
  under = least_over-under c.args.size c.args.pieces.items;
}
