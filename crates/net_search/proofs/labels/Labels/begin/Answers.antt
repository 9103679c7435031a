use Rattle.std.proofs.Common.{◌<◌, List, length, get_or, rules}
use Rattle.std.proofs.lemmas.List.{get_or_default}
use Rattle.std.proofs.lemmas.List.Edits.{map_over_more}
use Rattle.net_search.specs.declared.label.Label.{Label}
use Rattle.net_search.specs.Known.{blank, as_forgotten}
use Rattle.net_search.proofs.labels.Labels.begin.Goals as goal

pub loop-label-preserved : goal.loop-label-preserved
loop-label-preserved c =
    let all : List Label = c.deref_mut-label-items.result.now in
    let now : List Label = c.loop-label.label-items in
    let i = c.loop-label.label-index in
    let here : Label = get_or now i blank in
    let within : i < length all = search rules in
    let within_now : i < length now = search rules in
    map_over_more as_forgotten all now i here within c.loop-label.invariant (get_or_default now i blank here within_now)
