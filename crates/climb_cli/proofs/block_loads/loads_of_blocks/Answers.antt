use Rattle.std.proofs.Common.{List, ℕ, sym, subst}
use Rattle.climb_cli.specs.ClimbedCerts.{AreLoadsOfBlocks}
use Rattle.climb_cli.proofs.BlockLoads.{with_wirelength}
use Rattle.climb_cli.proofs.block_loads.loads_of_blocks.Goals as goal

pub returns : goal.returns
returns c =
    let d = c.args.design.now in
    let blocks = c.args.blocks.now in
    subst (λ (xs : List ℕ). AreLoadsOfBlocks d blocks xs) (sym c.in_ok-push.ensures.items)
    (with_wirelength d blocks c.in_ok-loads.loads.items c.args.wirelength c.in_ok-loads.ensures.long c.in_ok-loads.ensures.loads c.requires.wirelength)
