use Rattle.std.proofs.Common.{ℕ, ◌≡◌, ◌<◌, List, length, ap, arith, subst}
use Rattle.std.proofs.lemmas.Grind.{common_steps}
use Rattle.std.proofs.lemmas.Result.{err_from_is_err_and}
use Rattle.grid_graph.specs.declared.net_spec.NetSpec.{NetSpec}
use Rattle.grid_base.specs.Lists.{At}
use Rattle.grid_graph.proofs.Grounds.{first_cause, at_place, joined_so_far, AreGroundsSoFar-push, AreGrounds-from_so_far}
use Rattle.grid_graph.proofs.design.Design.grounds.Goals as goal

pub returns-in_err-ground_by-clause-cause : goal.returns-in_err-ground_by-clause-cause
returns-in_err-ground_by-clause-cause c =
    let d = c.args.self.now in
    let exit = err_from_is_err_and c.from_residual-in_err-ground_by.result c.from_residual-in_err-ground_by.ensures.1 in
    let within : c.loop-net.net < length d.nets = subst (λ (xs : List NetSpec). c.loop-net.net < length xs) c.list-net-end.ensures.items c.loop-net-test.true in
    let found = at_place d.nets c.loop-net.net within in
    rw (exit.1, exit.2)
    (first_cause d.grid d.nets c.loop-net.net found.0 c.in_err-ground_by.field-0.0 found.1 (c.in_err-ground_by.ensures.cause found.0 found.1)
    (λ j m below at. joined_so_far d.grid d.nets c.loop-net.grounds.items c.loop-net.invariant.right j m (rw c.loop-net.invariant.long below) at))

pub returns-clause-grounds : goal.returns-clause-grounds
returns-clause-grounds c =
    let d = c.args.self.now in
    let whole : length c.loop-net.grounds.items ≡ length d.nets =
    omega (arith, c.loop-net.invariant.long, c.loop-net-test.false, c.loop-net.auto.net-end, ap (length {A = NetSpec}) c.list-net-end.ensures.items) in
    AreGrounds-from_so_far d.grid d.nets c.loop-net.grounds.items whole c.loop-net.invariant.right

pub loop-net-preserved : goal.loop-net-preserved
loop-net-preserved c =
    let d = c.args.self.now in
    let grounds = c.loop-net.grounds.items in
    rw c.in_ok-push.ensures.items (record {
      long = grind (arith, common_steps, c.loop-net.invariant.long);
      right = AreGroundsSoFar-push d.grid d.nets grounds c.in_ok-ground_by.field-0 c.loop-net.invariant.right
          (λ n at. c.in_ok-ground_by.ensures.found n (subst (λ (x : ℕ). At d.nets x n) c.loop-net.invariant.long at));
    })
