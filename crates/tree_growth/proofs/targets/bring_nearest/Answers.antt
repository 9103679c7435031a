use Rattle.std.proofs.Common.{◌<◌, length, arith, inl, inr}
use Rattle.std.proofs.lemmas.Bool.{cases_lt}
use Rattle.std.proofs.lemmas.List.Sorted.{IsPermutation-trans}
use Rattle.std.proofs.lemmas.Option.{slice_get_within}
use Rattle.tree_growth.proofs.Swaps.{nearest_more}
use Rattle.tree_growth.proofs.targets.bring_nearest.Goals as goal

pub loop-place-preserved : goal.loop-place-preserved
loop-place-preserved c = record {
  same = IsPermutation-trans c.args.left.now c.loop-place.left c.swap.new.self c.loop-place.invariant.same c.swap.ensures.permutation;
  nearest = nearest_more c.loop-place.left c.swap.new.self c.loop-place.place c.nearest_from-nearest.result
      c.nearest_from-nearest.ensures.from c.nearest_from-nearest.ensures.within c.swap.ensures.after
      c.nearest_from-nearest.ensures.nearest c.loop-place.invariant.nearest;
}

pub returns-clause-nearest : goal.returns-clause-nearest
returns-clause-nearest c = λ i j near far below ordered at_i at_j. elim (cases_lt i c.loop-place.place) [
  | inl less ↦ c.loop-place.invariant.nearest i j near far less ordered at_i at_j
  | inr past ↦
      let within : i < length c.loop-place.left = slice_get_within c.loop-place.left i near at_i in
      absurd (omega (arith, within, past, below))
]
