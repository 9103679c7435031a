use Rattle.std.proofs.Common.{◌≡◌, ◌≤◌, ◌<◌, subst, ltb, false, refl, sym, ◌∙◌, ap, inl, inr, arith}
use Rattle.std.proofs.lemmas.Bool.{le-ltb}
use Rattle.routing_state.specs.declared.rerouting.Rerouting.{Rerouting}
use Rattle.routing_state.specs.declared.totals.Totals.{Totals}
use Rattle.routing_state.specs.Best.{best_of}
use Rattle.routing_state.specs.States.{totals_in, trees_of}
use Rattle.routing_state.specs.Totals.{totals_of}
use Rattle.negotiation.proofs.negotiating.keep_best.Goals as goal

pub returns-then-keep_if_better-clause-of : goal.returns-then-keep_if_better-clause-of
returns-then-keep_if_better-clause-of c = c.keep_if_better.ensures.of c.args.design.now c.requires.of

pub returns-then-keep_if_better-clause-best : goal.returns-then-keep_if_better-clause-best
returns-then-keep_if_better-clause-best c =
    inl (c.if-keep_if_better.ensures.better refl c.args.design.now c.requires.of ∙ ap trees_of c.keep_if_better.ensures.state)

pub returns-clause-of : goal.returns-clause-of
returns-clause-of c = c.keep_if_better.ensures.of c.args.design.now c.requires.of

pub returns-clause-best : goal.returns-clause-best
returns-clause-best c = inr (ap best_of (c.if-keep_if_better.ensures.kept (λ no. cc)))

pub returns-then-keep_if_better-clause-better : goal.returns-then-keep_if_better-clause-better
returns-then-keep_if_better-clause-better c = λ is.
    let d = c.args.design.now in
    let sets : best_of c.keep_if_better.new.self ≡ trees_of c.args.rerouting.now.state =
    c.if-keep_if_better.ensures.better refl d c.requires.of ∙ ap trees_of c.keep_if_better.ensures.state in
    (sets, (c.keep_if_better.ensures.of d c.requires.of).best ∙ ap (totals_of d) sets ∙ sym c.requires.of.state.totals)

pub returns-then-keep_if_better-clause-same : goal.returns-then-keep_if_better-clause-same
returns-then-keep_if_better-clause-same c = λ worse. absurd (worse (c.if-keep_if_better.ensures.decided.0 refl))

pub returns-clause-better : goal.returns-clause-better
returns-clause-better c = λ is. let not_so = c.if-keep_if_better.ensures.decided.1 is in cc

pub returns-clause-same : goal.returns-clause-same
returns-clause-same c = λ worse. c.if-keep_if_better.ensures.kept (λ no. cc)

pub returns-clause-stale : goal.returns-clause-stale
returns-clause-stale c =
    let same : c.keep_if_better.new.self ≡ c.args.rerouting.now = c.if-keep_if_better.ensures.kept (λ no. cc) in
    let no_less : ltb c.keep_if_better.new.self.best.overflow c.args.rerouting.now.best.overflow ≡ false =
    le-ltb c.keep_if_better.new.self.best.overflow c.args.rerouting.now.best.overflow (omega (arith, ap (λ (r : Rerouting). r.best.overflow) same)) in
    rw no_less c.saturating_add.ensures

pub returns-then-keep_if_better-clause-low : goal.returns-then-keep_if_better-clause-low
returns-then-keep_if_better-clause-low c =
    let d = c.args.design.now in
    let is = c.keep_if_better.ensures.of d c.requires.of in
    let sets : best_of c.keep_if_better.new.self ≡ trees_of c.keep_if_better.new.self.state = c.if-keep_if_better.ensures.better refl d c.requires.of in
    let same : c.keep_if_better.new.self.best ≡ totals_in c.keep_if_better.new.self.state = is.best ∙ ap (totals_of d) sets ∙ sym is.state.totals in
    omega (arith, ap (λ (t : Totals). t.overflow) same)

pub returns-clause-low : goal.returns-clause-low
returns-clause-low c =
    let same : c.keep_if_better.new.self ≡ c.args.rerouting.now = c.if-keep_if_better.ensures.kept (λ no. cc) in
    let no_less : (totals_in c.args.rerouting.now.state).overflow < c.args.rerouting.now.best.overflow → ⊥ =
    λ less. let not_so = c.if-keep_if_better.ensures.decided.1 (inl less) in cc in
    subst (λ (r : Rerouting). r.best.overflow ≤ (totals_in r.state).overflow) (sym same) (omega (arith, no_less))
