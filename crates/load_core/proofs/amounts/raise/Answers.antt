use Rattle.std.proofs.Common.{◌<◌, sym, ◌∙◌, arith}
use Rattle.std.proofs.lemmas.Grind.{same_number_lists}
use Rattle.load_core.specs.Entries.{plus}
use Rattle.load_core.proofs.Entries.{get_or-plus, length-plus}
use Rattle.load_core.proofs.amounts.raise.Goals as goal

pub returns : goal.returns
returns c =
    let long = length-plus c.args.amounts.now c.args.more.now (sym c.requires.long) in
    same_number_lists c.loop-at.amounts (plus c.args.amounts.now c.args.more.now) (omega (arith, long))
    (λ k low. let in' : k < c.loop-at.at = omega arith in c.loop-at.invariant.done k in' ∙ sym (get_or-plus c.args.amounts.now c.args.more.now k))
