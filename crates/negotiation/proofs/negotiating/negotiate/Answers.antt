use Rattle.std.proofs.Common.{◌≡◌, ◌≤◌, ◌⊎◌, inl, inr, ◌+◌, ◌-◌, ◌^◌, ℕ, Bool, true, false, if◌then◌else◌, ltb, min, List, [], sym, ◌∙◌, ap, subst, arith}
use Rattle.grid_base.specs.declared.piece.Piece.{Piece}
use Rattle.routing_state.specs.declared.state.RoutingState.{RoutingState}
use Rattle.routing_state.specs.declared.totals.Totals.{Totals}
use Rattle.routing_state.specs.States.{totals_in, trees_of}
use Rattle.routing_state.specs.Totals.{IsNoWorse}
use Rattle.negotiation.specs.Changes.{AreChanged}
use Rattle.negotiation.proofs.Steps.{negotiated_first, negotiated_more}
use Rattle.negotiation.specs.Limits.{patience}
use Rattle.negotiation.proofs.negotiating.negotiate.Goals as goal
use Rattle.negotiation.proofs.negotiating.negotiate.Goals.{then-rounds-test+then-stale-lt-PATIENCE+else-totals-gt0, then-rounds-test+else-stale-lt-PATIENCE, else-rounds-test}

pub rounds-init : goal.rounds-init
rounds-init g c = record {
  negotiated = negotiated_first c.args.design.now c.args.state c.in_ok-rerouting.rerouting (c.in_ok-rerouting.ensures.of c.args.design.now c.requires.state)
      c.in_ok-rerouting.ensures.state c.in_ok-rerouting.ensures.best c.in_ok-rerouting.ensures.totals;
  idle = λ none. c.in_ok-rerouting.ensures.best;
  tools = c.requires.tools;
  stale = omega arith;
  low = omega (arith, ap (λ (t : Totals). t.overflow) c.in_ok-rerouting.ensures.totals, ap (λ (s : RoutingState). (totals_in s).overflow) c.in_ok-rerouting.ensures.state);
  within = omega arith;
}

-- one round more without less overflow, or none
stale_more : (less : Bool) (stale after most done : ℕ) → after ≡ (if less then 0 else min (stale + 1) most) → stale ≤ done → after ≤ done + 1
stale_more true stale after most done is within = omega (arith, is)
stale_more false stale after most done is within = omega (arith, is, within)

pub rounds-preserved : goal.rounds-preserved
rounds-preserved g c = record {
  negotiated = negotiated_more c.args.design.now c.args.state c.rounds.rerouting c.run_round.new.rerouting c.keep_best-stale.new.rerouting
      c.rounds.invariant.negotiated c.in_ok-run_round.ensures.kept c.keep_best-stale.ensures.of c.keep_best-stale.ensures.state c.keep_best-stale.ensures.best c.keep_best-stale.ensures.no_worse;
  idle = λ none. absurd (omega (arith, none));
  tools = c.in_ok-run_round.ensures.tools;
  stale = stale_more (ltb c.keep_best-stale.new.rerouting.best.overflow c.run_round.new.rerouting.best.overflow) c.rounds.stale c.keep_best-stale.result (2 ^ 32 - 1) c.rounds.done
      c.keep_best-stale.ensures.stale c.rounds.invariant.stale;
  low = c.keep_best-stale.ensures.low;
  within = omega arith;
}

pub returns-clause-improved : goal.returns-clause-improved
returns-clause-improved g c = record {
  state = c.back.ensures.state;
  changed = subst (λ (xs : List (List Piece)). AreChanged c.args.design.now [] (trees_of c.args.state) xs) (sym c.back.ensures.trees) c.rounds.invariant.negotiated.best;
  no_worse = subst (λ (t : Totals). IsNoWorse t (totals_in c.args.state)) (sym c.back.ensures.totals) c.rounds.invariant.negotiated.no_worse;
}

pub returns-clause-idle : goal.returns-clause-idle
returns-clause-idle g c = λ none. c.back.ensures.trees ∙ c.rounds.invariant.idle none

pub returns-clause-enough : goal.returns-clause-enough
returns-clause-enough g c = λ few.
    elim c.rounds-test.branch as (λ _. (patience ≤ c.rounds.done) ⊎ ((totals_in c.back.result).overflow ≡ 0)) [
      | then-rounds-test+then-stale-lt-PATIENCE+else-totals-gt0 w ↦
          inr (omega (
            arith,
            ap (λ (t : Totals). t.overflow) c.back.ensures.totals,
            c.rounds.invariant.low,
            ap (λ (t : Totals). t.overflow) w.totals.ensures.value,
            ap (λ (s : RoutingState). (totals_in s).overflow) w.state.ensures,
            w.if-totals-gt0.false,
          ))
      | then-rounds-test+else-stale-lt-PATIENCE w ↦ inl (omega (arith, w.if-stale-lt-PATIENCE.false, c.rounds.invariant.stale))
      | else-rounds-test w ↦ absurd (omega (arith, few, w.rounds-test.false))
    ]
