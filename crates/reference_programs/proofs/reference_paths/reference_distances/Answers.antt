use Rattle.std.proofs.Common.{◌≡◌, length, set, replicate, sym, ◌∙◌, ap, subst, refl, arith}
use Rattle.std.proofs.lemmas.List.{length-set, length-replicate}
use Rattle.grid_base.specs.Numbers.{vertices}
use Rattle.reference_programs.specs.LowerNumbers.{unreached, listed_number, IsLowerNumber}
use Rattle.label_search.specs.Sets.{IsDistance, RisesSlowly}
use Rattle.reference_programs.proofs.Lowering.{start_reached, lower_reached, slow_distance, distance_in}
use Rattle.reference_programs.proofs.reference_paths.reference_distances.Goals as goal

pub loop-to-init : goal.loop-to-init
loop-to-init c =
    let s = c.args.size in
    let all : c.in_ok-numbers.numbers.items ≡ replicate (vertices s) unreached =
    c.in_ok-numbers.ensures.items_if_clones_equal (λ y is. is) ∙ ap (λ n. replicate n unreached) c.vertices.ensures in
    record {
      long = length-set c.in_ok-numbers.numbers.items c.args.source.0 0 ∙ ap length all
          ∙ length-replicate (vertices s) unreached;
      reached = start_reached s c.args.pieces.now c.args.source.0
          (set c.in_ok-numbers.numbers.items c.args.source.0 0) c.requires.source (ap (λ xs. set xs c.args.source.0 0) all);
    }

pub loop-to-preserved : goal.loop-to-preserved
loop-to-preserved c =
    let before = c.loop-to.numbers.items in
    let num = listed_number before in
    let lower : IsLowerNumber c.args.size c.args.pieces.now num c.in-Some.to.0 c.in-Some.number =
    rw c.as_slice.ensures.value at c.in-Some.ensures.some in
    record {
      long = length-set before c.in-Some.to.0 c.in-Some.number ∙ c.loop-to.invariant.long;
      reached = lower_reached c.args.size c.args.pieces.now c.args.source.0 before c.in-Some.to.0 c.in-Some.number
          c.loop-to.invariant.long c.loop-to.invariant.reached lower;
    }

pub returns : goal.returns
returns c = λ v vertex.
    let s = c.args.size in
    let pieces = c.args.pieces.now in
    let numbers = c.loop-to.numbers.items in
    let slow : RisesSlowly s pieces (listed_number numbers) = rw c.as_slice.ensures.value at (c.in_default.ensures.none refl) in
    let is = rw c.as_slice-2.ensures.value at c.in_ok-as_distances.ensures in
    subst (IsDistance s pieces c.args.source.0 v)
    (sym (distance_in numbers c.in_ok-as_distances.field-0.items v (omega (arith, vertex, c.loop-to.invariant.long)) is))
    (slow_distance s pieces c.args.source.0 v (listed_number numbers) c.requires.inside c.requires.light
    c.loop-to.invariant.reached slow)
