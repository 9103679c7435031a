use Rattle.std.proofs.Common.{◌≡◌, ◌+◌, true, sym, ◌∙◌, ap, subst, arith}
use Rattle.std.proofs.lemmas.Option.{slice_get_within}
use Rattle.route_judge.proofs.MissingNets.{AreMissingBelow, missing_more, missing_same}
use Rattle.route_judge.proofs.missing.missing_nets.Goals as goal
use Rattle.route_judge.proofs.missing.missing_nets.Goals.{then-lacks_block+in_ok-push, else-lacks_block}

pub loop-place-preserved : goal.loop-place-preserved
loop-place-preserved c =
    let d = c.args.design.now in
    let taken = c.args.taken.now in
    let k = c.loop-place.place in
    let missing = c.loop-place.missing.items in
    elim c.if-lacks_block.branch [
      | then-lacks_block+in_ok-push w ↦ subst (AreMissingBelow d taken (k + 1)) (sym (ap (λ v. v.items) w.missing-is ∙ w.in_ok-push.ensures.items))
          (missing_more d taken k missing c.loop-place.invariant (λ blocks n have at. (c.lacks_block.ensures blocks n have at).0 w.if-lacks_block.true))
      | else-lacks_block w ↦ subst (AreMissingBelow d taken (k + 1)) (sym (ap (λ v. v.items) w.missing-is))
          (missing_same d taken k missing c.loop-place.invariant (λ blocks n have at lacks. let told : c.lacks_block.result ≡ true = (c.lacks_block.ensures blocks n have at).1 lacks in cc (told, w.if-lacks_block.false)))
    ]

pub returns : goal.returns
returns c blocks taken =
    let all = c.loop-place.invariant in
    record {
      places = λ k other below. omega (arith, all.within k other below, c.loop-place-test.false, c.requires);
      once = all.once;
      each = λ k n at. all.each blocks taken k n (omega (arith, slice_get_within c.args.design.now.nets k n at, c.loop-place-test.false, c.requires)) at;
    }
