use Rattle.std.proofs.Common.{◌-◌, arith}
use Rattle.std.proofs.lemmas.Bool.Decides.{nat_tests}
use Rattle.steiner_tables.proofs.Parts.{parts_from_and, and_from_parts}
use Rattle.steiner_tables.proofs.terminal_masks.is_part.Goals as goal

pub returns : goal.returns
returns c = (
  λ yes. parts_from_and c.args.one c.args.mask c.requires.some c.requires.less (grind (arith, nat_tests, yes)),
  λ parts. grind (arith, nat_tests, and_from_parts c.args.one (c.args.mask - c.args.one) c.args.mask parts),
)
