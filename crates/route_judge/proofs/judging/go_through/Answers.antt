use Rattle.std.proofs.Common.{None}
use Rattle.std.proofs.lemmas.Result.{err_from_is_err_and}
use Rattle.route_judge.proofs.Judged.{judged_by_routes, judged_by_claims, judged_by_bound, stopped_by_bound, states_bound}
use Rattle.route_judge.proofs.judging.go_through.Goals as goal

pub returns-in_err-measure_routes-clause-judged : goal.returns-in_err-measure_routes-clause-judged
returns-in_err-measure_routes-clause-judged g c =
    let exit = err_from_is_err_and c.from_residual.result c.from_residual.ensures.1 in
    rw (exit.1, exit.2) (judged_by_routes c.args.design.now c.args.grounds.now (g.B.Blocks.list c.args.blocks) c.args.cert.now c.in_err-measure_routes.field-0.0 c.in_err-measure_routes.ensures.stops)

pub returns-in_err-test_claims-clause-judged : goal.returns-in_err-test_claims-clause-judged
returns-in_err-test_claims-clause-judged g c =
    let d = c.args.design.now in
    let over = c.args.grounds.now in
    let blocks = g.B.Blocks.list c.args.blocks in
    let m = c.with_budget-measured.result in
    let exit = err_from_is_err_and c.from_residual-in_err-test_claims.result c.from_residual-in_err-test_claims.ensures.1 in
    let measured = c.with_budget-measured.ensures.measured d over blocks c.in_ok-measure_routes.ensures.measured in
    rw (exit.1, exit.2) (judged_by_claims d over blocks c.args.cert.now m.measure m.beyond c.in_err-test_claims.field-0.0 c.in_ok-measure_routes.ensures.stops measured c.in_err-test_claims.ensures)

pub returns-in_err-test_bound-clause-judged : goal.returns-in_err-test_bound-clause-judged
returns-in_err-test_bound-clause-judged g c =
    let d = c.args.design.now in
    let over = c.args.grounds.now in
    let blocks = g.B.Blocks.list c.args.blocks in
    let m = c.with_budget-measured.result in
    let exit = err_from_is_err_and c.from_residual-in_err-test_bound.result c.from_residual-in_err-test_bound.ensures.1 in
    let measured = c.with_budget-measured.ensures.measured d over blocks c.in_ok-measure_routes.ensures.measured in
    rw (exit.1, exit.2) (stopped_by_bound d over blocks c.args.cert.now m.measure m.beyond c.in_ok-found.found c.in_err-test_bound.field-0.0 c.in_ok-measure_routes.ensures.stops measured
    c.in_ok-test_claims.ensures c.in_ok-found.ensures.found c.in_err-test_bound.ensures.stops)

pub returns-clause-judged : goal.returns-clause-judged
returns-clause-judged g c =
    let d = c.args.design.now in
    let over = c.args.grounds.now in
    let blocks = g.B.Blocks.list c.args.blocks in
    let m = c.with_budget-measured.result in
    let measured = c.with_budget-measured.ensures.measured d over blocks c.in_ok-measure_routes.ensures.measured in
    judged_by_bound d over blocks c.args.cert.now m.measure m.beyond c.in_ok-found.found None c.in_ok-measure_routes.ensures.stops measured c.in_ok-test_claims.ensures c.in_ok-found.ensures.found c.in_ok-test_bound.ensures.stops

pub returns-clause-bound : goal.returns-clause-bound
returns-clause-bound g c =
    states_bound c.args.design.now c.args.cert.now c.in_ok-found.found c.in_ok-test_bound.ensures.stops c.in_ok-test_bound.ensures.resource c.in_ok-found.ensures.bounds
