use Rattle.negotiation.specs.Searches.{AreFindings}
use Rattle.negotiation.proofs.searching.search_by_turns.Given as goal

-- what was found so far
abbrev pub invariant-loop : goal.invariant-loop
invariant-loop l = AreFindings l.sight.design.now l.nets l.findings.items
