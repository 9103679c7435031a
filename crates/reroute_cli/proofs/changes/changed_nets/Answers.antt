use Rattle.std.proofs.Common.{◌≡◌, ◌≢◌, ◌<◌, ◌+◌, ◌↔◌, ℕ, Bool, IsTrue, length, slice_index_or, sym, ◌∙◌, ap, subst, ⊎_elim, arith}
use Rattle.std.proofs.lemmas.Bool.{cases_eq, cases_lt}
use Rattle.std.proofs.lemmas.List.{length_push}
use Rattle.std.proofs.lemmas.Option.{slice_get-get_or}
use Rattle.grid_base.specs.Lists.{At}
use Rattle.grid_base.proofs.Lists.{At-push_cases}
use Rattle.reroute_cli.proofs.changes.changed_nets.Goals as goal

below_or_there : (j k : ℕ) → j < k + 1 → (j ≡ k → ⊥) → j < k
below_or_there j k below other = ⊎_elim (λ less. less) (λ more. absurd (other (omega (arith, below, more)))) (cases_lt j k)

pub loop-place-preserved : goal.loop-place-preserved
loop-place-preserved c =
    let k = c.loop-place.place in
    let marks = c.loop-place.changed.items in
    let mark = c.is_changed.result in
    let before = c.loop-place.invariant in
    let pushed = c.in_ok-push.ensures.items in
    record {
      long = ap (length {A = Bool}) pushed ∙ length_push marks mark ∙ ap (λ n. n + 1) before.long;
      each = λ j had is old new at_had at_old at_new at_is. ⊎_elim
          (λ earlier. before.each j had is old new at_had at_old at_new earlier)
          (λ last.
          let here : j ≡ k = last.0 ∙ before.long in
          subst (λ (b : Bool). IsTrue b ↔ (IsTrue had × (old ≢ new))) (sym last.1)
          (c.is_changed.ensures.changed had old new (subst (λ i. At c.args.has_block.now i had) here at_had) (subst (λ i. At c.args.given.now i old) here at_old) (subst (λ i. At c.args.trees.now i new) here at_new)))
          (At-push_cases marks mark is j (subst (λ xs. At xs j is) pushed at_is));
      rising = λ j tree below at. ⊎_elim
          (λ (here : j ≡ k). c.is_changed.ensures.rising tree (subst (λ i. At c.args.trees.now i tree) here at))
          (λ (other : j ≡ k → ⊥). before.rising j tree (below_or_there j k below other) at)
          (cases_eq j k);
    }

pub returns-clause-rising : goal.returns-clause-rising
returns-clause-rising c = λ j other below. c.loop-place.invariant.rising j (slice_index_or c.args.trees.now j other) (omega (arith, below, c.loop-place-test.false)) (slice_get-get_or c.args.trees.now j other below)
