use Rattle.std.proofs.Common.{ℕ, ◌<◌, ◌≡◌, length}
use Rattle.grid_base.specs.Lists.{At}
use Rattle.steiner_exact.specs.Boxes.{box_of}
use Rattle.steiner_exact.proofs.boxes.boxes_of.Given as goal

-- the masks before this one have their boxes
abbrev pub invariant-loop-mask : goal.invariant-loop-mask
invariant-loop-mask l = record {
  long : length l.boxes ≡ 32;
  made : (k : ℕ) → k < l.mask → At l.boxes k (box_of l.fn.size l.terminals k);
}
