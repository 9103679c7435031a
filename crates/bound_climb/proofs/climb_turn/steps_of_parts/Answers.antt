use Rattle.std.proofs.Common.{◌≡◌, ℕ, ◌-◌, ◌<◌, List, length, IfOk, refl, ap, ◌∙◌, subst, arith}
use Rattle.std.specs.List.{AllZip, flat_map, range_with_len, slice_range}
use Rattle.rayon.specs.Numbers.{nat_range}
use Rattle.rayon.proofs.ListFacts.{AllZip-weaken, IfOk-then}
use Rattle.rayon.proofs.ToStd.{nat_range-All}
use Rattle.even_parts.specs.EvenParts.{part_start}
use Rattle.even_parts.proofs.PartStarts.{all_parts, part_start-le}
use Rattle.grid_graph.specs.declared.net_spec.NetSpec.{NetSpec}
use Rattle.bound_climb.specs.ClimbTurns.{IsStepSeen, AreStepsOfPart}
use Rattle.bound_climb.proofs.ClimbParts.{AllZip-turned, parts_found, IsFoundOfPart}
use Rattle.bound_climb.proofs.climb_turn.steps_of_parts.Goals as goal

pub collect-requires-clause-ready : goal.collect-requires-clause-ready
collect-requires-clause-ready g c κs within =
    let base = ap (λ it. it.base) c.map.ensures.base ∙ c.with_min_len.ensures.base in
    let start = ap (λ it. it.start) base ∙ c.into_par_iter.ensures.0 in
    let end = ap (λ it. it.end) base ∙ c.into_par_iter.ensures.1 in
    let inside = nat_range-All (λ i. i < c.args.parts) 0 c.args.parts (λ i low high. high) in
    rw (start, end, c.map.ensures.f) (λ k d lt. ((c.requires.sight, c.requires.most, inside k d lt), λ y p. tt))

pub returns : goal.returns
returns g c =
    let s = c.args.sight.now in
    let nets = s.design.now.nets in
    let parts = c.args.parts in
    let start : ℕ → ℕ = part_start parts (length nets) in
    let some : 0 < parts = omega (arith, c.requires.some) in
    let base = ap (λ it. it.base) c.map.ensures.base ∙ c.with_min_len.ensures.base in
    let first = ap (λ it. it.start) base ∙ c.into_par_iter.ensures.0 in
    let last = ap (λ it. it.end) base ∙ c.into_par_iter.ensures.1 in
    let whole : parts - 0 ≡ parts = omega arith in
    let made = c.in_ok-found.ensures in
    let each = AllZip-turned _ (λ part r. IfOk r (λ trees. AreStepsOfPart s parts part trees.items)) _ _ made.1.2 (λ part r h. rw c.map.ensures.f at h) in
    let places = made.1.1 ∙ (λ i. nat_range (first i) (last i)) ∙ ap (range_with_len 0) whole in
    let zipped = subst (λ (z : List ℕ). AllZip (λ part r. IfOk r (λ trees. AreStepsOfPart s parts part trees.items)) z made.0) places each in
    let found = AllZip-weaken (λ part r. IfOk r (λ trees. AreStepsOfPart s parts part trees.items)) (λ part r. IsFoundOfPart (IsStepSeen s) (λ trees. trees.items) nets start part r) (λ part r h. IfOk-then r _ _ h (λ v is. is.steps)) _ _ zipped in
    let nets_are : slice_range nets (start 0) (start parts) ≡ nets = all_parts parts (length nets) nets some refl in
    IfOk-then c.in_ok-found.found _ _
    (parts_found (IsStepSeen s) (λ trees. trees.items) nets start (λ a b low. part_start-le parts (length nets) a b some low) (λ v. v.items) _ parts made.0 c.in_ok-found.found found made.2)
    (λ v h. subst (λ (ns : List NetSpec). AllZip (IsStepSeen s) ns (flat_map (λ trees. trees.items) v.items)) nets_are h)
