use Rattle.std.proofs.Common.{◌≡◌, Bool, true, false, not, sym, ◌∙◌}
use Rattle.std.specs.BTreeSet.{contains}
use Rattle.std.specs.Ordering.{nat_cmp}
use Rattle.std.proofs.lemmas.Result.{err_from_is_err_and}
use Rattle.ispd_reader.proofs.NextNumbers.{no_id, wrong_id, taken_id, free_id}
use Rattle.ispd_reader.proofs.net_numbers.id.Goals as goal

true_of_not : (b : Bool) → false ≡ not b → b ≡ true
true_of_not b e = elim b as (λ b. false ≡ not b → b ≡ true) [ true ↦ λ e. cc | false ↦ λ e. absurd (cc) ] e

false_of_not : (b : Bool) → true ≡ not b → b ≡ false
false_of_not b e = elim b as (λ b. true ≡ not b → b ≡ false) [ true ↦ λ e. absurd (cc) | false ↦ λ e. cc ] e

pub returns-in_err-number-clause-id : goal.returns-in_err-number-clause-id
returns-in_err-number-clause-id c =
    let p = err_from_is_err_and c.from_residual.result c.from_residual.ensures.1 in
    rw (p.1, p.2) (no_id c.args.token.now (contains nat_cmp c.args.taken.now) c.in_err-number.field-0.0 c.in_err-number.ensures.number)

pub returns-in_err-id-clause-id : goal.returns-in_err-id-clause-id
returns-in_err-id-clause-id c =
    let p = err_from_is_err_and c.from_residual-in_err-id.result c.from_residual-in_err-id.ensures.1 in
    rw (p.1, p.2) (wrong_id c.args.token.now (contains nat_cmp c.args.taken.now) c.in_ok-number.number c.within.result c.in_err-id.field-0.0 c.in_ok-number.ensures.number c.within.ensures c.in_err-id.ensures.value)

pub returns-then-not-branch-clause-id : goal.returns-then-not-branch-clause-id
returns-then-not-branch-clause-id c =
    let there = true_of_not (contains nat_cmp c.args.taken.now c.in_ok-id.id) (sym c.if-not-branch.true ∙ c.in_ok-insert.ensures.added) in
    taken_id c.args.token.now (contains nat_cmp c.args.taken.now) c.in_ok-number.number c.within.result c.in_ok-id.id c.in_ok-number.ensures.number c.within.ensures c.in_ok-id.ensures.value there

pub returns-clause-id : goal.returns-clause-id
returns-clause-id c =
    let free = false_of_not (contains nat_cmp c.args.taken.now c.in_ok-id.id) (sym c.if-not-branch.false ∙ c.in_ok-insert.ensures.added) in
    free_id c.args.token.now (contains nat_cmp c.args.taken.now) c.in_ok-number.number c.within.result c.in_ok-id.id c.in_ok-number.ensures.number c.within.ensures c.in_ok-id.ensures.value free
