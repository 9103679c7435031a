use Rattle.std.proofs.Common.{◌<◌, ◌+◌, length, refl, arith}
use Rattle.load_table.proofs.Blocks.{put_next}
use Rattle.load_table.proofs.found.Found.put_block.Goals as goal

pub loop-k-preserved : goal.loop-k-preserved
loop-k-preserved c =
    let put = c.loop-k.invariant in
    let within : c.args.first + c.loop-k.k < length c.loop-k.self = omega (arith, put.long, c.loop-k-test.true, c.requires.block) in
    rw c.put.ensures.value (put_next c.args.first c.loop-k.k _ c.args.values.now c.args.values.now c.args.self.now c.loop-k.self put within (λ j early. refl) refl)
