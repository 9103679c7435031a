use Rattle.std.proofs.Common.{ℕ, ◌≡◌, ◌+◌, length, arith, subst}
use Rattle.std.proofs.lemmas.Grind.{common_steps}
use Rattle.grid_base.specs.Lists.{At}
use Rattle.grid_graph.proofs.Grounds.{AreGroundsSoFar-push, AreGrounds-from_so_far}
use Rattle.eco_cli.proofs.reporting.grounds_of.Goals as goal

pub loop-net-preserved : goal.loop-net-preserved
loop-net-preserved c =
    let d = c.args.eco.now.design in
    let grounds = c.loop-net.grounds.items in
    rw c.in_ok-push.ensures.items (record {
      long = grind (arith, common_steps, c.loop-net.invariant.long);
      right = AreGroundsSoFar-push d.grid d.nets grounds c.ground_of.result c.loop-net.invariant.right
          (λ n at. c.ground_of.ensures n (subst (λ (x : ℕ). At d.nets x n) c.loop-net.invariant.long at));
    })

pub returns : goal.returns
returns c =
    let d = c.args.eco.now.design in
    AreGrounds-from_so_far d.grid d.nets c.loop-net.grounds.items (omega (arith, c.loop-net.invariant.long, c.loop-net-test.false, c.requires.count)) c.loop-net.invariant.right
