use Rattle.std.specs.List.Sorted.{IsPermutation}
use Rattle.tree_growth.specs.Nearest.{AreNearestFirst}
use Rattle.tree_growth.proofs.targets.bring_nearest.Given as goal

abbrev pub invariant-loop-place : goal.invariant-loop-place
invariant-loop-place l = record {
  same : IsPermutation l.initial.left l.left;
  nearest : AreNearestFirst l.left l.place;
}
