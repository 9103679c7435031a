use Rattle.std.proofs.Common.{ap, ◌∙◌}
use Rattle.std.proofs.lemmas.Iterator.{items_from_collect}
use Rattle.std.proofs.lemmas.Iterator.Adapters.{YieldsList-from_skip, YieldsList-from_vec}
use Rattle.std.specs.Vec.Iter.{into_iter_items, into_iter_len}
use Rattle.command_words.proofs.arguments.words_of.Goals as goal

pub returns-in-Ok-clause-all : goal.returns-in-Ok-clause-all
returns-in-Ok-clause-all c =
    let given = c.in-Ok.args in
    let same = c.skip.ensures.source in
    rw c.in-Ok.is (items_from_collect c.collect.result c.collect.ensures.ran
    (YieldsList-from_skip 1 (YieldsList-from_vec (into_iter_items given) (ap into_iter_items same) (ap into_iter_len same ∙ given.rest.ok.0)) c.skip.ensures.count))
