use Rattle.std.proofs.Common.{◌∙◌, ap, false, fold, replicate}
use Rattle.std.proofs.lemmas.Iterator.{YieldsList-from_slice, YieldsList-from_take}
use Rattle.std.proofs.lemmas.Iterator.Consumers.{YieldsList-end}
use Rattle.tile_graphs.specs.Uses.{with_mark}
use Rattle.tile_graphs.proofs.tile_use.marks_by_count.Goals as goal

pub returns : goal.returns
returns c =
    let end = YieldsList-end (YieldsList-from_take c.args.count (YieldsList-from_slice c.args.uses.now cc) cc) c.loop-used.yielded _ c.loop-used.yielded_by _ _ c.in-None.is c.next.ensures.steps in
    c.loop-used.invariant ∙ ap (fold with_mark (replicate c.args.tile_edges false)) end.0
