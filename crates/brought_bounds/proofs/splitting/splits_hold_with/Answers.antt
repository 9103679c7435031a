use Rattle.std.proofs.Common.{◌+◌, length, refl, sym, subst, ⊎_elim, arith}
use Rattle.std.proofs.lemmas.Bool.{cases_eq}
use Rattle.grid_base.specs.Numbers.{vertices}
use Rattle.brought_bounds.specs.TableWords.{table_number, SplitHolds}
use Rattle.brought_bounds.proofs.splitting.splits_hold_with.Goals as goal

pub returns-then-not-split_holds : goal.returns-then-not-split_holds
returns-then-not-split_holds c = (
  λ no. absurd (cc no),
  λ all. c.if-not-split_holds.ensures.1 (all (c.loop-place.place + 1) (omega arith)
      (omega (arith, c.loop-place-test.true, c.len-place-end.ensures))),
)

pub loop-place-preserved : goal.loop-place-preserved
loop-place-preserved c other some low = ⊎_elim
    (λ last. subst (SplitHolds (vertices c.args.size) (length c.args.rows.now) (table_number c.args.rows.now) c.args.one)
    (sym last) (c.if-not-split_holds.ensures.0 refl))
    (λ before. c.loop-place.invariant other some (omega (arith, low, before)))
    (cases_eq other (c.loop-place.place + 1))

pub returns : goal.returns
returns c = (
  λ yes other some low. c.loop-place.invariant other some
      (omega (arith, low, c.loop-place-test.false, c.len-place-end.ensures)),
  λ all. refl,
)
