use Rattle.std.proofs.Common.{length, arith}
use Rattle.steiner_exact.proofs.BoxSteps.{few_masks_all}
use Rattle.steiner_exact.proofs.row_family.RowFamily.across.Goals as goal

pub label-requires-clause-mask : goal.label-requires-clause-mask
label-requires-clause-mask g c = let x = c.args.self.now in omega (arith, few_masks_all (length x.terminals.now) x.few, c.requires.mask, x.room)
