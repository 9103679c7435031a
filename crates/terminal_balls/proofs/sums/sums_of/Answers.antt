use Rattle.std.proofs.Common.{◌∙◌, sym, ap, inl, inr, slice_index, arith, get_or-set_other, length-set}
use Rattle.std.proofs.lemmas.Bool.{cases_eq}
use Rattle.std.proofs.lemmas.Grind.{get_or-set_at}
use Rattle.steiner_tables.specs.Masks.{few_terminals}
use Rattle.terminal_balls.specs.Balls.{radii_sum}
use Rattle.terminal_balls.proofs.sums.sums_of.Goals as goal

pub loop-mask-preserved : goal.loop-mask-preserved
loop-mask-preserved c =
    let sums = c.loop-mask.sums in
    let here = c.loop-mask.mask in
    let before = c.loop-mask.invariant in
    record {
      long = length-set sums here c.sum_of.result ∙ before.long;
      summed = λ mask low. elim (cases_eq mask here) [
        | inl same ↦ get_or-set_at sums here mask c.sum_of.result 0 same (omega arith)
            ∙ (c.sum_of.ensures ∙ ap (λ m. radii_sum (slice_index c.args.radii.now) m few_terminals) (sym same))
        | inr other ↦ rw get_or-set_other (before.summed mask (omega arith))
      ];
    }
