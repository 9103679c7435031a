use Rattle.std.proofs.Common.{⊎_elim, arith}
use Rattle.std.proofs.lemmas.Bool.{cases_eq}
use Rattle.reference_programs.proofs.Repeats.{different, new_at, none_from}
use Rattle.reference_programs.proofs.listing.are_different.Goals as goal

pub loop-i-preserved : goal.loop-i-preserved
loop-i-preserved c = λ k d low. ⊎_elim
    (λ here. new_at c.args.pieces.now c.loop-i.i k d _ here c.loop-i-test.true (c.weight_in.ensures.none (none_from c.weight_in.result c.if-is_some.ensures)))
    (λ before. c.loop-i.invariant k d (omega arith))
    (cases_eq k c.loop-i.i)

pub returns : goal.returns
returns c = λ yes. different c.args.pieces.now (λ k d high. c.loop-i.invariant k d (omega arith))
