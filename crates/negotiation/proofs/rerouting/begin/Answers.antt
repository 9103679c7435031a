use Rattle.std.proofs.Common.{◌≡◌, ℕ, List, length, [], inl, inr, rules, sym, ap}
use Rattle.std.proofs.lemmas.List.{nil_from_length}
use Rattle.routing_state.specs.States.{trees_of}
use Rattle.negotiation.proofs.Kept.{kept_same}
use Rattle.negotiation.proofs.Steps.{improved_renewed}
use Rattle.negotiation.proofs.rerouting.begin.Goals as goal

pub returns-then-is_empty-clause-renewed : goal.returns-then-is_empty-clause-renewed
returns-then-is_empty-clause-renewed g c =
    let none : length c.args.missing.now ≡ 0 = search rules in
    improved_renewed c.args.design.now c.args.missing.now c.args.state.now c.run_passes.new.state none c.in_ok-run_passes.ensures.improved

pub returns-clause-no_worse : goal.returns-clause-no_worse
returns-clause-no_worse g c = λ none. let empty : length c.args.missing.now ≡ 0 = ap (λ (xs : List ℕ). length xs) none in absurd (search rules)

pub returns-then-is_empty-clause-kept : goal.returns-then-is_empty-clause-kept
returns-then-is_empty-clause-kept g c = λ still.
    let short : length c.args.missing.now ≡ 0 = search rules in
    let none : c.args.missing.now ≡ [] = nil_from_length c.args.missing.now short in
    let passes : c.args.passes ≡ 0 = elim still as (λ _. c.args.passes ≡ 0) [ inl zero ↦ zero | inr some ↦ absurd (some none) ] in
    kept_same c.args.missing.now (trees_of c.args.state.now) (trees_of c.run_passes.new.state) (sym (ap trees_of (c.in_ok-run_passes.ensures.idle passes)))

pub returns-clause-kept : goal.returns-clause-kept
returns-clause-kept g c = λ still. c.in_ok-start.ensures.kept
