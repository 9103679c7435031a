use Rattle.std.proofs.Common.{◌≡◌, length, arith}
use Rattle.tile_graphs.specs.Bundles.{sets_of_ends}
use Rattle.tile_graphs.proofs.EndSets.{sets-doubled, sets-few}
use Rattle.tile_graphs.proofs.ends.Ends.sets.Goals as goal

pub loop-place-preserved : goal.loop-place-preserved
loop-place-preserved c =
    let nodes = c.args.self.nodes in
    let eight : length nodes ≡ 8 = omega arith in
    sets-doubled nodes c.loop-place.place 0 c.loop-place.sets c.saturating_mul-sets.result (sets_of_ends nodes)
    (omega (arith, eight, c.loop-place-test.true)) c.if-self-place.false (sets-few nodes eight)
    c.loop-place.invariant c.saturating_mul-sets.ensures
