use Rattle.std.proofs.Common.{◌<◌, sym, ◌∙◌, arith}
use Rattle.std.proofs.lemmas.Grind.{same_number_lists}
use Rattle.load_core.specs.Entries.{minus}
use Rattle.load_core.proofs.Entries.{get_or-minus, length-minus}
use Rattle.load_core.proofs.amounts.lower.Goals as goal

pub returns : goal.returns
returns c =
    let long = length-minus c.args.amounts.now c.args.less.now in
    same_number_lists c.loop-at.amounts (minus c.args.amounts.now c.args.less.now) (omega (arith, long))
    (λ k low. let in' : k < c.loop-at.at = omega arith in c.loop-at.invariant.done k in' ∙ sym (get_or-minus c.args.amounts.now c.args.less.now k))
