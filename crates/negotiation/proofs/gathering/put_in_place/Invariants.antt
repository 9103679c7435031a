use Rattle.std.proofs.Common.{◌≡◌, length}
use Rattle.negotiation.specs.Searches.{AreFindings, AreFound}
use Rattle.negotiation.proofs.gathering.put_in_place.Given as goal

-- at each place stands what is found for its net, before and behind
abbrev pub invariant-loop-i : goal.invariant-loop-i
invariant-loop-i l = record {
  findings : AreFindings l.sight.design.now l.nets l.findings.items;
  found : AreFound l.sight.design.now l.nets l.found.items;
  marks : length l.is_done.items ≡ length l.nets;
  long : length l.findings.items ≡ length l.initial.findings.items;
}
