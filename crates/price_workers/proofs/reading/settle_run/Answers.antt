use Rattle.std.proofs.Common.{◌≡◌, ◌/◌, ℕ, List, slice_index, refl, ◌∙◌, ap, arith}
use Rattle.price_workers.proofs.Common.{entries_per_mark}
use Rattle.price_workers.proofs.reading.settle_run.Goals as goal

-- a word with an unset mark is kept as it was found last
pub returns-then-not-may_be_at-clause-found : goal.returns-then-not-may_be_at-clause-found
returns-then-not-may_be_at-clause-found c e low high =
    let marks : List ℕ = c.args.changes.now.marks.items in
    let one : e / entries_per_mark ≡ c.args.first / entries_per_mark = omega (arith, low, high, c.requires.run) in
    c.requires.changes.same e (omega (arith, high, c.requires.entries))
    (ap (λ (k : ℕ). slice_index marks k) one ∙ c.if-not-may_be_at.ensures refl)
