use Rattle.std.proofs.Common.{◌+◌, ◌≤◌, refl, sym, subst, arith}
use Rattle.steiner_tables.specs.Masks.{AreParts}
use Rattle.steiner_tables.proofs.Masks.{parts_sum}
use Rattle.brought_bounds.specs.TableWords.{table_number}
use Rattle.brought_bounds.proofs.splitting.split_holds.Goals as goal

pub returns-then-one-other : goal.returns-then-one-other
returns-then-one-other c = (
  λ yes mask v parts within low. absurd
      (omega (arith, within, parts_sum c.args.one c.args.other mask parts, c.if-one-other.true, c.len.ensures)),
  λ all. refl,
)

pub returns-then-not-are_parts : goal.returns-then-not-are_parts
returns-then-not-are_parts c = (
  λ yes mask v parts within low. absurd
      (cc (c.if-not-are_parts.ensures.1 (subst (AreParts c.args.one c.args.other)
      (sym (parts_sum c.args.one c.args.other mask parts)) parts))),
  λ all. refl,
)

pub returns : goal.returns
returns c =
    let number = table_number c.args.rows.now in
    let one = c.args.one in
    let other = c.args.other in (
      λ is mask v parts within low. subst (λ m. number m v ≤ number one v + number other v) (parts_sum one other mask parts)
          (c.row_is_within.ensures.0 is v low),
      λ all. c.row_is_within.ensures.1 (λ v low. all (one + other) v (c.if-not-are_parts.ensures.0 refl)
          (omega (arith, c.if-one-other.false, c.len.ensures)) low),
    )
