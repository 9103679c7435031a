use Rattle.std.proofs.Common.{◌<◌, ◌≤◌, arith, ⊎_elim}
use Rattle.std.proofs.lemmas.Bool.{cases_lt}
use Rattle.std.proofs.lemmas.List.{get_or_past}
use Rattle.routing_tests.proofs.worker_tests.has_all.Goals as goal

pub returns : goal.returns
returns c _ e =
    let loads = c.args.loads.now in
    ⊎_elim
    (λ (listed : e < c.args.words). c.loop-word.invariant e (omega (arith, listed, c.loop-word-test.false)))
    (λ (past : c.args.words ≤ e). omega (arith, get_or_past loads e 0 (omega (arith, past, c.requires.long))))
    (cases_lt e c.args.words)
