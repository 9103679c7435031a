use Rattle.std.proofs.lemmas.List.Elements.{All-append}
use Rattle.negotiation.specs.Searches.{IsFinding}
use Rattle.negotiation.proofs.searching.+fn-search_side_by_side-join+arg2+fn-search_side_by_side-join+arg3+search_side_by_side.Goals as goal

pub returns : goal.returns
returns g t c =
    let left = rw c.in_ok-findings.was at c.join-left.ensures.first in
    let right = rw c.in_ok-others.was at c.join-left.ensures.second in
    record {
      findings = rw c.in_ok-append.ensures.items
          (All-append (IsFinding c.args.sight.design.now c.args.nets.now) c.in_ok-findings.findings.items c.in_ok-others.others.items left right);
    }
