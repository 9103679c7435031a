use Rattle.std.proofs.Common.{◌≡◌, ◌+◌, arith, IfOk, subst}
use Rattle.routing_passes.specs.Passes.{pass_of}
use Rattle.routing_passes.specs.PassTurns.{HadTurns}
use Rattle.routing_passes.proofs.PassSplits.{halves_joined}
use Rattle.routing_passes.proofs.workers.+fn-route_parts-join+arg2+fn-route_parts-join+arg3+route_parts.Goals as goal

pub returns-then-last-first-eq1 : goal.returns-then-last-first-eq1
returns-then-last-first-eq1 g t c =
    let p = pass_of c.args.design.now c.args.grounds.now c.args.table.now c.args.earlier.now c.args.before.now c.args.plan.now in
    let behind : c.args.first + 1 ≡ c.args.last = omega (arith, c.if-last-first-eq1.true, c.requires.range) in
    record {
      turns = subst (λ n. IfOk c.route_part.result (λ r. HadTurns p c.args.first n c.args.share r.0 r.1.items)) behind c.route_part.ensures.turns;
    }

pub returns : goal.returns
returns g t c =
    let left = rw c.in_ok-share.was at c.join-left.ensures.first in
    let right = rw c.in_ok-behind.was at c.join-left.ensures.second in
    let p = pass_of c.args.design.now c.args.grounds.now c.args.table.now c.args.earlier.now c.args.before.now c.args.plan.now in
    rw (c.join.ensures.event, c.in_ok-append.ensures.items) (record {
      turns = halves_joined {p = p} c.in_ok-given.ensures.halves.split left right c.requires.pass.some (omega arith)
          (omega (arith, c.requires.range));
    })
