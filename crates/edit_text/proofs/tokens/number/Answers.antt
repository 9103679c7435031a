use Rattle.std.proofs.Common.{rules, sym, SFits, w64}
use Rattle.std.proofs.lemmas.Int.{to_z-of_z}
use Rattle.text_scan.proofs.Ranges.{first_is_within}
use Rattle.edit_text.proofs.tokens.number.Goals as goal

pub returns-clause-range : goal.returns-clause-range
returns-clause-range c =
    let z = c.in_ok-number.field-0.value in
    let fits : SFits w64 z = search rules in
    let read = rw (to_z-of_z w64 c.args.lo c.ranges.lo, to_z-of_z w64 c.args.hi c.ranges.hi) at c.in_ok-number.ensures.answer in
    rw (to_z-of_z w64 z fits) (first_is_within c.args.lo c.args.hi c.in_ok-number.field-0 c.args.scanner.now (sym read))
