use Rattle.std.proofs.Common.{refl, ⊎_elim, arith}
use Rattle.std.proofs.lemmas.Bool.{cases_lt}
use Rattle.steiner_tables.proofs.Masks.{bit-high}
use Rattle.steiner_tables.proofs.terminal_masks.are_parts.Goals as goal

pub returns : goal.returns
returns c = (
  λ _. record {
    some = omega (arith, c.if-one-eq0.false);
    others = omega (arith, c.if-other-eq0.false);
    shared = λ place. ⊎_elim
        (λ below. c.loop-place.invariant place (omega (arith, below, c.loop-place-test.false)))
        (λ past. omega (arith, bit-high 5 c.args.mask place c.requires.mask past, bit-high 5 c.args.one place c.requires.one past, bit-high 5 c.args.other place c.requires.other past))
        (cases_lt place 5);
  },
  λ _. refl,
)
