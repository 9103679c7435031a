use Rattle.std.proofs.Common.{length, arith}
use Rattle.steiner_exact.proofs.BoxSteps.{few_masks_all}
use Rattle.steiner_exact.proofs.ball_family.BallFamilyFamily.low.Goals as goal

pub shares-shares-requires-clause-mask : goal.shares-shares-requires-clause-mask
shares-shares-requires-clause-mask g c = let x = c.args.self.now.row.now in omega (arith, few_masks_all (length x.terminals.now) x.few, c.requires.mask)
