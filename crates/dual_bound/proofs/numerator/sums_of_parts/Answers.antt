use Rattle.std.proofs.Common.{◌≡◌, ℕ, ◌+◌, ◌-◌, ◌<◌, List, length, sum, IfOk, refl, ap, ◌∙◌, subst, arith}
use Rattle.std.specs.List.{AllZip, range_with_len, slice_range}
use Rattle.rayon.specs.Numbers.{nat_range}
use Rattle.rayon.proofs.ListFacts.{IfOk-then}
use Rattle.rayon.proofs.ToStd.{nat_range-All}
use Rattle.grid_graph.specs.declared.net_spec.NetSpec.{NetSpec}
use Rattle.even_parts.specs.EvenParts.{part_start}
use Rattle.even_parts.proofs.PartStarts.{all_parts, part_start-le}
use Rattle.dual_bound.specs.DesignBounds.{IsSumOfBounds}
use Rattle.dual_bound.specs.Parts.{IsSumOfPart}
use Rattle.dual_bound.proofs.NetLimits.{sum-limit}
use Rattle.dual_bound.proofs.NetsOf.{all_widths}
use Rattle.dual_bound.proofs.PartSums.{parts_summed}
use Rattle.dual_bound.proofs.numerator.sums_of_parts.Goals as goal

pub collect-requires-clause-ready : goal.collect-requires-clause-ready
collect-requires-clause-ready g c κs within =
    let base = ap (λ it. it.base) c.map.ensures.base ∙ c.with_min_len.ensures.base in
    let start = ap (λ it. it.start) base ∙ c.into_par_iter.ensures.0 in
    let end = ap (λ it. it.end) base ∙ c.into_par_iter.ensures.1 in
    let inside = nat_range-All (λ i. i < c.args.parts) 0 c.args.parts (λ i low high. high) in
    rw (start, end, c.map.ensures.f) (λ k d lt. ((c.requires.grounds, c.requires.most, inside k d lt), λ y p. tt))

pub returns : goal.returns
returns g c =
    let p = c.args.priced.now in
    let d = p.design.now in
    let parts = c.args.parts in
    let start : ℕ → ℕ = part_start parts (length d.nets) in
    let some : 0 < parts = omega (arith, c.requires.some) in
    let base = ap (λ it. it.base) c.map.ensures.base ∙ c.with_min_len.ensures.base in
    let first = ap (λ it. it.start) base ∙ c.into_par_iter.ensures.0 in
    let last = ap (λ it. it.end) base ∙ c.into_par_iter.ensures.1 in
    let whole : parts - 0 ≡ parts = omega arith in
    let made = rw c.map.ensures.f at c.in_ok-sums.ensures in
    let places = made.1.1 ∙ (λ i. nat_range (first i) (last i)) ∙ ap (range_with_len 0) whole in
    let zipped = subst (λ (z : List ℕ). AllZip (λ part r. IfOk r (IsSumOfPart p parts part)) z made.0) places made.1.2 in
    let nets_are : slice_range d.nets (start 0) (start parts) ≡ d.nets = all_parts parts (length d.nets) d.nets some refl in
    IfOk-then c.in_ok-sums.sums _ _
    (parts_summed d.grid p.prices.now p.budget d.nets start (λ k. part_start-le parts (length d.nets) k (k + 1) some (omega arith)) (λ v. v.items) _ parts made.0 c.in_ok-sums.sums zipped made.2)
    (λ v h.
    let all : IsSumOfBounds d.grid p.prices.now p.budget d.nets (sum v.items) = subst (λ (ns : List NetSpec). IsSumOfBounds d.grid p.prices.now p.budget ns (sum v.items)) nets_are h in
    (all, omega (arith, all.sums, sum-limit d.grid p.prices.now p.budget d.nets all.bounds p.priced (all_widths d) all.each, d.limits.count)))
