use Rattle.std.proofs.Common.{◌≡◌, ◌-◌, refl, subst, arith}
use Rattle.overflow_bounds.specs.NodeRows.{IsWithinSums, numbers_of_mask}
use Rattle.overflow_bounds.proofs.Splits.{row_read, split_more, all_splits}
use Rattle.overflow_bounds.proofs.starting.lower_to_splits.Goals as goal
use Rattle.overflow_bounds.proofs.starting.lower_to_splits.Goals.{then-one-other+then-is_part, else-one-other}
use Rattle.overflow_bounds.proofs.starting.lower_to_splits.Goals.{else-one-other-via-then-one-other+else-is_part}
use Rattle.overflow_bounds.proofs.starting.lower_to_splits.Goals.{else-one-other-via-else-one-other}

pub loop-one-preserved : goal.loop-one-preserved
loop-one-preserved c =
    let rows = c.args.rows.now in
    let mask = c.args.mask in
    let one = c.loop-one.one in
    let old = c.loop-one.row in
    let before = c.loop-one.invariant in
    elim c.if-one-other.branch [
      | then-one-other+then-is_part w ↦
          let new = w.lower_to_sums.new.row in
          let after = w.lower_to_sums.ensures in
          let first : w.list.result.now ≡ numbers_of_mask rows one =
          row_read rows (one - 1) w.index-rows-one.result w.list.result.now
          (omega (arith, c.loop-one-test.true, c.requires.rows)) w.index-rows-one.is w.list.ensures in
          let second : w.list-then-is_part.result.now ≡ numbers_of_mask rows (mask - one) =
          row_read rows (mask - one - 1) w.index-rows-other.result w.list-then-is_part.result.now
          (omega (arith, c.loop-one-test.true, c.requires.rows)) w.index-rows-other.is w.list-then-is_part.ensures in
          rw w.row-is (record {
            lowered = λ n. omega (arith, before.lowered n, after.lowered n);
            splits = split_more rows mask one old new w.lower_to_sums.auto.row after.lowered
                (λ less parts. subst (λ xs. IsWithinSums xs (numbers_of_mask rows (mask - one)) new) first
                (subst (λ xs. IsWithinSums w.list.result.now xs new) second after.sums)) before.splits;
          })
      | else-one-other w ↦
          rw w.row-is (record {
            lowered = before.lowered;
            splits = split_more rows mask one old old refl (λ n. omega arith)
                (λ less parts. absurd (elim w.else-one-other.branch [
                  | else-one-other-via-then-one-other+else-is_part x ↦ cc (x.if-is_part.ensures.1 parts)
                  | else-one-other-via-else-one-other x ↦ omega (arith, x.if-one-other.false, less)
                ])) before.splits;
          })
    ]

pub returns-clause-splits : goal.returns-clause-splits
returns-clause-splits c =
    all_splits c.args.rows.now c.args.mask c.loop-one.one c.loop-one.row (omega (arith, c.loop-one-test.false))
    c.loop-one.invariant.splits
