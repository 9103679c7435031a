use Rattle.std.proofs.Common.{◌<◌, ◌∙◌, length, get_or, Some, set, get_or-set_same, get_or-set_other, ap, sym, ⊎_elim, arith}
use Rattle.std.proofs.lemmas.Bool.{cases_eq}
use Rattle.std.proofs.lemmas.List.{length-set}
use Rattle.std.proofs.lemmas.Option.{slice_get-get_or, get_or_from_slice_get}
use Rattle.grid_base.specs.Lists.{At}
use Rattle.steiner_exact.specs.Boxes.{box_of}
use Rattle.steiner_exact.proofs.BoxSteps.{few_masks_all}
use Rattle.steiner_exact.proofs.boxes.boxes_of.Goals as goal

pub bounds-boxes-mask : goal.bounds-boxes-mask
bounds-boxes-mask c =
    omega (arith, few_masks_all (length c.args.terminals.now) c.requires.few, c.all_of-mask-end.ensures, c.loop-mask-test.true)

pub loop-mask-preserved : goal.loop-mask-preserved
loop-mask-preserved c =
    let boxes = c.loop-mask.boxes in
    let mask = c.loop-mask.mask in
    let box = c.box_of.result in
    let inside : mask < length boxes = omega (arith, bounds-boxes-mask c, c.loop-mask.invariant.long) in
    record {
      long = length-set boxes mask box ∙ c.loop-mask.invariant.long;
      made = λ k low. ⊎_elim
          (λ here. let long : k < length (set boxes mask box) = omega (arith, here, inside, length-set boxes mask box) in
          slice_get-get_or (set boxes mask box) k box long
          ∙ ap Some (ap (λ i. get_or (set boxes mask box) i box) here ∙ get_or-set_same boxes mask box box inside
          ∙ c.box_of.ensures ∙ ap (box_of c.args.size c.args.terminals.now) (sym here)))
          (λ other. let before : At boxes k (box_of c.args.size c.args.terminals.now k) = c.loop-mask.invariant.made k (omega (arith, low, other)) in
          let long : k < length (set boxes mask box) = omega (arith, bounds-boxes-mask c, low, other, c.loop-mask.invariant.long, length-set boxes mask box) in
          slice_get-get_or (set boxes mask box) k box long
          ∙ ap Some (get_or-set_other boxes mask k box box other ∙ get_or_from_slice_get boxes k _ box before))
          (cases_eq k mask);
    }
