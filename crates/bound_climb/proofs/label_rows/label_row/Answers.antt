use Rattle.std.proofs.Common.{arith}
use Rattle.std.proofs.lemmas.List.FromFn.{map-range_with_len_more}
use Rattle.shortest_paths.specs.LabelWords.{label_of}
use Rattle.bound_climb.proofs.label_rows.label_row.Goals as goal

pub loop-v-preserved : goal.loop-v-preserved
loop-v-preserved c =
    let l = c.args.labels.now in
    let more = map-range_with_len_more (label_of l c.args.mask) 0 c.loop-v.v c.loop-v.v (omega arith) in
    let a = c.in_ok-push.ensures.items in
    let e = c.label_or_greatest.ensures in
    let i = c.loop-v.invariant in
    cc
