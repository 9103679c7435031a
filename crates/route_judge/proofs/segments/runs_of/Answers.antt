use Rattle.std.proofs.Common.{◌<◌, ◌≤◌, length, [], ⊎_elim, refl, arith}
use Rattle.std.proofs.lemmas.Result.{err_from_is_err_and}
use Rattle.route_judge.specs.Orders.{segment_objections}
use Rattle.route_judge.proofs.Found.{none_numbered, stops_numbered, none_in_all, read_again}
use Rattle.route_judge.proofs.OnSegments.{IsOnSome, none_on, one_more_segment, all_put, held_where_put}
use Rattle.route_judge.proofs.segments.runs_of.Goals as goal

pub loop-i-init : goal.loop-i-init
loop-i-init c = rw c.in_ok-runs.ensures.items (record { clear = refl; put = none_on c.args.design.now.grid [] })

pub returns-in_err-add_segment-clause-stops : goal.returns-in_err-add_segment-clause-stops
returns-in_err-add_segment-clause-stops c =
    let exit = err_from_is_err_and c.from_residual-in_err-add_segment.result c.from_residual-in_err-add_segment.ensures.1 in
    let segments = c.args.block.now.segments.now in
    let below : c.loop-i.i < length segments = c.loop-i-test.true in
    rw (exit.1, exit.2) (stops_numbered c.args.design.now (segment_objections c.args.number) segments _ c.loop-i.i _ c.in_err-add_segment.field-0.0 refl below c.loop-i.invariant.clear c.in_err-add_segment.ensures.stops)

pub loop-i-preserved : goal.loop-i-preserved
loop-i-preserved c =
    let g = c.args.design.now.grid in
    let segments = c.args.block.now.segments.now in
    let below : c.loop-i.i < length segments = c.loop-i-test.true in
    record {
      clear = none_numbered c.args.design.now (segment_objections c.args.number) segments _ c.loop-i.i _ refl below c.loop-i.invariant.clear c.in_ok-add_segment.ensures.stops;
      put = one_more_segment g segments c.loop-i.i _ [] c.loop-i.runs.items c.add_segment.new.runs.items below (read_again segments _ c.loop-i.i _ refl below) c.loop-i.invariant.put c.in_ok-add_segment.ensures.put;
    }

pub returns-clause-stops : goal.returns-clause-stops
returns-clause-stops c =
    let segments = c.args.block.now.segments.now in
    let all : length segments ≤ c.loop-i.i = omega arith in
    none_in_all c.args.design.now (segment_objections c.args.number) segments c.loop-i.i all c.loop-i.invariant.clear

pub returns-clause-named : goal.returns-clause-named
returns-clause-named c =
    let g = c.args.design.now.grid in
    let segments = c.args.block.now.segments.now in
    let all : length segments ≤ c.loop-i.i = omega arith in
    held_where_put g (IsOnSome g segments) c.loop-i.runs.items (all_put g segments c.loop-i.i c.loop-i.runs.items all c.loop-i.invariant.put)

pub returns-clause-runs : goal.returns-clause-runs
returns-clause-runs c = c.loop-i.invariant.put.runs (λ k other below. absurd (omega (arith, below)))

pub returns-clause-no_wall : goal.returns-clause-no_wall
returns-clause-no_wall c p held = ⊎_elim (λ none. absurd (omega (arith, none.1))) (λ one. c.loop-i.invariant.put.no_wall p one) ((c.loop-i.invariant.put.pieces p).0 held)
