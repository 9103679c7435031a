use Rattle.std.proofs.Common.{length, ◌∙◌, ap, arith}
use Rattle.ripup_repair.proofs.RoundFacts.{written_over}
use Rattle.ripup_repair.proofs.replaced.Replaced.put_back_unless.Goals as goal

pub returns-clause-back : goal.returns-clause-back
returns-clause-back c kept =
    written_over _ _ _ (omega (arith, c.exchange.auto.trees, c.deref_mut.ensures.len))
    ∙ rw (c.deref.ensures.value, c.deref_mut.ensures.value, c.deref_mut-2.ensures.value) at c.exchange.ensures.trees

pub returns-clause-long : goal.returns-clause-long
returns-clause-long c =
    ap length (written_over _ c.exchange.new.trees _ (omega (arith, c.exchange.auto.trees, c.deref_mut.ensures.len)))
    ∙ omega (arith, c.exchange.auto.trees, ap length c.deref_mut.ensures.value)
