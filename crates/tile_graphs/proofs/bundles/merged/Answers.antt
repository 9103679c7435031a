use Rattle.std.proofs.Common.{◌≡◌, ◌<◌, ◌≤◌, ◌+◌, ◌/◌, ◌^◌, ◌++◌, ◌∙◌, Vec, Global, Bool, true, false, Option, Some, None, [], ap, sym, subst, take, refl}
use Rattle.std.specs.Option.{option_to_list}
use lib.Pointwise.{bytes_decides}
use Rattle.tile_graphs.specs.declared.bundles.Bundle.{Bundle}
use Rattle.tile_graphs.specs.declared.ends.Ends.{Ends}
use Rattle.tile_graphs.specs.Bundles.{AreTight, CostAlike, demand_of_bundles}
use Rattle.tile_graphs.proofs.Tight as tight
use Rattle.tile_graphs.proofs.Merging.{step_apart, step_first, step_joined}
use Rattle.tile_graphs.proofs.bundles.merged.Goals.{Joined-last, in-Some, in-Some-2+in_ok-push-in-Some-2, then-eq+else-last-most, else-eq, in-None}
use Rattle.tile_graphs.proofs.bundles.merged.Goals as goal

alike_step : (c : Joined-last) → demand_of_bundles c.args.singles.now < 2 ^ 64 → CostAlike (c.match-last.bundles.items ++ option_to_list c.match-last.last) (take (c.loop-single.single-index + 1) c.args.singles.now)
alike_step c = λ fits.
    let none : Bundle = record { ends = record { nodes = [] }; demand = 0 } in
    let items = λ (v : Vec Bundle Global). v.items in
    elim c.match-last.branch [
      | in-Some w ↦ step_joined c.match-last.bundles.items c.loop-single.bundles.items c.loop-single.last c.match-last.last c.args.singles.now
          c.loop-single.single-index none _ w.saturating_add.result c.loop-single-test.true fits (c.loop-single.invariant.alike fits)
          (w.in-Some.is ∙ ap (λ (b : Bundle). Some b) (sym w.in-Some.bundle-is)) (ap items w.bundles-is) w.last-is ((bytes_decides _ _).0 (sym w.eq.ensures ∙ w.if-eq.true)) w.saturating_add.ensures
      | in-Some-2+in_ok-push-in-Some-2 w ↦ step_apart c.match-last.bundles.items c.loop-single.bundles.items c.loop-single.last c.match-last.last
          c.args.singles.now c.loop-single.single-index none _ c.loop-single-test.true (c.loop-single.invariant.alike fits)
          (w.in-Some-2.is ∙ ap (λ (b : Bundle). Some b) (sym w.in-Some-2.bundle-is)) (ap items w.bundles-is ∙ w.in_ok-push-in-Some-2.ensures.items) w.last-is
      | in-None w ↦ step_first c.match-last.bundles.items c.loop-single.bundles.items c.loop-single.last c.match-last.last c.args.singles.now
          c.loop-single.single-index none c.loop-single-test.true (c.loop-single.invariant.alike fits) w.in-None.is (ap items w.bundles-is) w.last-is
    ]

one_some : {o : Option Bundle} {a b : Bundle} → o ≡ Some a → o ≡ Some b → a ≡ b
one_some first second = cc

unlike : {a b : Bool} → a ≡ b → b ≡ true → a ≡ false → ⊥
unlike is holds fails = cc

tight_step : (c : Joined-last) → AreTight (c.total_demand-most.result / 1000) (c.match-last.bundles.items ++ option_to_list c.match-last.last)
tight_step c =
    let items = λ (v : Vec Bundle Global). v.items in
    let most = c.total_demand-most.result / 1000 in
    let before = c.loop-single.invariant.tight in
    elim c.match-last.branch [
      | in-Some w ↦ tight.step_joined most c.match-last.bundles.items c.loop-single.bundles.items c.loop-single.last c.match-last.last _ _
          before (w.in-Some.is ∙ ap (λ (b : Bundle). Some b) (sym w.in-Some.bundle-is)) (ap items w.bundles-is) w.last-is refl
      | in-Some-2+in_ok-push-in-Some-2 w ↦ tight.step_apart most c.match-last.bundles.items c.loop-single.bundles.items c.loop-single.last c.match-last.last
          _ _ before (w.in-Some-2.is ∙ ap (λ (b : Bundle). Some b) (sym w.in-Some-2.bundle-is))
          (ap items w.bundles-is ∙ w.in_ok-push-in-Some-2.ensures.items) w.last-is
          (let here = w.in-Some.bundle-is ∙ one_some w.in-Some.is w.in-Some-2.is in
          elim w.if-eq.branch [
            | then-eq+else-last-most v ↦ λ _. subst (λ (b : Bundle). most ≤ b.demand) here v.if-last-most.false
            | else-eq v ↦ λ ends.
                let same = ap (λ (e : Ends). e.nodes) (ap (λ (b : Bundle). b.ends) here ∙ ends) in
                absurd (unlike w.eq.ensures ((bytes_decides _ _).1 same) v.if-eq.false)
          ])
      | in-None w ↦ tight.step_first most c.match-last.bundles.items c.loop-single.bundles.items c.match-last.last _
          (c.loop-single.invariant.first w.in-None.is) (ap items w.bundles-is) w.last-is
    ]

not_both : (o : Option Bundle) (b : Bundle) → o ≡ Some b → o ≡ None → ⊥
not_both o b some none = cc

first_step : (c : Joined-last) → c.match-last.last ≡ None → c.match-last.bundles.items ≡ []
first_step c none =
    elim c.match-last.branch [
      | in-Some w ↦ absurd (not_both _ _ w.last-is none)
      | in-Some-2+in_ok-push-in-Some-2 w ↦ absurd (not_both _ _ w.last-is none)
      | in-None w ↦ absurd (not_both _ _ w.last-is none)
    ]

pub loop-single-preserved : goal.loop-single-preserved
loop-single-preserved c = record { alike = alike_step c; tight = tight_step c; first = first_step c }
