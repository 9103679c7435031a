use Rattle.std.proofs.Common.{◌+◌, length, ap, arith}
use Rattle.even_parts.proofs.PartStarts.{part_start-within}
use Rattle.dual_bound.proofs.numerator.sum_of_part.Goals as goal

pub sum_between-requires-clause-inside : goal.sum_between-requires-clause-inside
sum_between-requires-clause-inside c = omega (
  arith,
  c.part_start-to.ensures,
  part_start-within c.args.parts (length c.list-nets.result.now) (c.args.part + 1) (omega (arith, c.requires.part)) (omega (arith, c.requires.part)),
  ap length c.list-nets.ensures.items,
)
