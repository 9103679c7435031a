use Rattle.std.proofs.Common.{◌+◌, refl, sym, subst, ⊎_elim, arith}
use Rattle.std.proofs.lemmas.Bool.{cases_eq}
use Rattle.label_search.specs.Sets.{RisesSlowly}
use Rattle.brought_bounds.specs.TableWords.{table_number}
use Rattle.brought_bounds.proofs.rising.rows_rise.Goals as goal

pub returns-then-not-row_rises : goal.returns-then-not-row_rises
returns-then-not-row_rises g c = (
  λ no. absurd (cc no),
  λ all. c.if-not-row_rises.ensures.1 (all (c.loop-place.place + 1) (omega arith) (omega (arith, c.loop-place-test.true))),
)

pub loop-place-preserved : goal.loop-place-preserved
loop-place-preserved g c mask some low = ⊎_elim
    (λ last. subst (λ m. RisesSlowly c.args.size (g.W.Weights.pieces c.args.weights.now) (table_number c.args.rows.now m))
    (sym last) (c.if-not-row_rises.ensures.0 refl))
    (λ before. c.loop-place.invariant mask some (omega (arith, low, before)))
    (cases_eq mask (c.loop-place.place + 1))

pub returns : goal.returns
returns g c = (λ yes mask some low. c.loop-place.invariant mask some (omega (arith, low, c.loop-place-test.false)), λ all. refl)
