use Rattle.std.proofs.Common.{[], ◌∷◌}
use Rattle.std.proofs.lemmas.List.Elements.{All-append, All-cons, All-nil}
use Rattle.negotiation.specs.declared.finding.Finding.{Finding}
use Rattle.negotiation.specs.Searches.{IsFinding}
use Rattle.negotiation.proofs.Findings.{finding_at}
use Rattle.negotiation.proofs.searching.search_by_turns.Goals as goal

pub loop-preserved : goal.loop-preserved
loop-preserved c =
    let d = c.args.sight.design.now in
    let nets = c.args.nets.now in
    let place = c.fetch_add-place.result in
    let finding : Finding = record { place = place; found = c.in_ok-found.found } in
    let is = finding_at d nets place c.in_ok-found.found c.if-place-nets.false c.in_ok-found.ensures.found in
    rw c.in_ok-push.ensures.items
    (All-append (IsFinding d nets) c.loop.findings.items (finding ∷ []) c.loop.invariant (All-cons (IsFinding d nets) finding [] is (All-nil (IsFinding d nets))))
