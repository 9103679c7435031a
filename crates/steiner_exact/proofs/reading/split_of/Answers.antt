use Rattle.std.proofs.Common.{ℕ, ◌≡◌, ◌+◌, ◌-◌, ◌≤◌, subst, arith}
use Rattle.shortest_paths.specs.LabelWords.{label_of}
use Rattle.steiner_tables.specs.Masks.{AreParts}
use Rattle.steiner_tables.specs.Tables.{IsSplit}
use Rattle.steiner_tables.proofs.Masks.{parts_sum}
use Rattle.steiner_exact.specs.Reading.{IsSplitBy}
use Rattle.steiner_exact.proofs.reading.split_of.Goals as goal

-- the other part is what one leaves of the mask
by_one : (number : ℕ → ℕ → ℕ) (mask v : ℕ) (is : IsSplit number mask v) → IsSplitBy number is.one (mask - is.one) mask v
by_one number mask v is =
    let left : is.other ≡ mask - is.one = omega (arith, parts_sum is.one is.other mask is.parts) in
    record {
      parts = subst (λ other. AreParts is.one other mask) left is.parts;
      less = subst (λ other. number is.one v + number other v ≤ number mask v) left is.less;
    }

pub returns-clause-none : goal.returns-clause-none
returns-clause-none c = λ _ split.
    c.loop-one.invariant split.one split.parts.some (omega (arith, parts_sum split.one split.other c.args.mask split.parts, split.parts.others, c.loop-one-test.false))
    (by_one (label_of c.args.labels.now) c.args.mask c.args.v.0 split)
