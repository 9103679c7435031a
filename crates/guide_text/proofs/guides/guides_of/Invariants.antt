use Rattle.std.proofs.Common.{◌≡◌, length}
use Rattle.guide_text.proofs.GuideLists.{AreGuidesSoFar}
use Rattle.guide_text.proofs.guides.guides_of.Given as goal

-- the guides of the nets so far
abbrev pub invariant-loop-k : goal.invariant-loop-k
invariant-loop-k l = record {
  long : length l.guides.items ≡ l.k;
  each : AreGuidesSoFar l.design.grid l.design.nets l.trees l.guides.items;
}
