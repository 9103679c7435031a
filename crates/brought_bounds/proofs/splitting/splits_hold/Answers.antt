use Rattle.std.proofs.Common.{◌+◌, ◌<◌, ◌≤◌, length, refl, sym, subst, ⊎_elim, arith}
use Rattle.std.proofs.lemmas.Bool.{cases_eq}
use Rattle.grid_base.specs.Numbers.{vertices}
use Rattle.brought_bounds.specs.TableWords.{table_number, SplitHolds}
use Rattle.brought_bounds.proofs.splitting.splits_hold.Goals as goal

pub returns-then-not-splits_hold_with : goal.returns-then-not-splits_hold_with
returns-then-not-splits_hold_with c = (
  λ no. absurd (cc no),
  λ all. c.if-not-splits_hold_with.ensures.1 (λ other. all (c.loop-place.place + 1) other (omega arith)
      (omega (arith, c.loop-place-test.true, c.len-place-end.ensures))),
)

pub loop-place-preserved : goal.loop-place-preserved
loop-place-preserved c one other some low = ⊎_elim
    (λ last. subst (λ m. 0 < other → other ≤ length c.args.rows.now
    → SplitHolds (vertices c.args.size) (length c.args.rows.now) (table_number c.args.rows.now) m other) (sym last)
    (c.if-not-splits_hold_with.ensures.0 refl other))
    (λ before. c.loop-place.invariant one other some (omega (arith, low, before)))
    (cases_eq one (c.loop-place.place + 1))

pub returns : goal.returns
returns c = (
  λ yes one other some low. c.loop-place.invariant one other some
      (omega (arith, low, c.loop-place-test.false, c.len-place-end.ensures)),
  λ all. refl,
)
