use Rattle.std.proofs.Common.{◌≡◌, ◌+◌, ◌-◌, get_or, ◌∙◌, arith}
use Rattle.std.proofs.lemmas.Option.{slice_get_within}
use Rattle.routing_passes.specs.Passes.{pass_in, turns_start}
use Rattle.routing_passes.proofs.PartSteps.{IsReady, ready, turns_begin}
use Rattle.routing_passes.proofs.WorkerSteps.{begins_turns, ends_turns, reprice_in_part}
use Rattle.routing_passes.proofs.part.route_part.Goals as goal
use Rattle.routing_passes.proofs.part.route_part.Goals.{After-read_if}

pub loop-turn-init : goal.loop-turn-init
loop-turn-init g c =
    let start = turns_begin c.args.worker c.requires.pass c.turns_of-from.ensures.from in
    let end = turns_begin (c.args.worker + 1) c.requires.pass c.turns_of-from.ensures.to in
    let olds = rw (c.as_slice-positions.ensures.value, start, end) at (c.in-Ok.ensures.trees ∙ c.in_ok-sets.ensures.sets) in
    rw start (begins_turns c.in-Ok.ensures.share c.requires.share.table olds c.in-Ok.ensures.grid c.in-Ok.ensures.scale
    c.in-Ok.ensures.budget)

-- the worker's next turn is due
due : (g : _) (c : After-read_if g) → IsReady (pass_in c.args.input) c.args.worker c.args.share c.loop-turn.turn
    c.turns_of-from.result.0 (get_or c.as_slice-positions.result.now c.loop-turn.turn 0) c.read_if.new.worker
due g c =
    ready c.requires.pass c.requires.worker c.requires.share c.as_slice-positions.ensures.value
    (turns_begin c.args.worker c.requires.pass c.turns_of-from.ensures.from)
    (turns_begin (c.args.worker + 1) c.requires.pass c.turns_of-from.ensures.to)
    (omega (arith, c.loop-turn-test.true, c.loop-turn.auto.turn-end)) c.read_if.ensures.read c.read_if.ensures.same
    c.read_if.ensures.work c.loop-turn.invariant

pub bounds-grounds-net : goal.bounds-grounds-net
bounds-grounds-net g c =
    let now = due g (goal.at.bounds-grounds-net g c).After-read_if in
    omega (arith, now.grounds, now.inside)

pub reprice_net-requires : goal.reprice_net-requires
reprice_net-requires g c =
    let now = due g (goal.at.reprice_net-requires g c).After-read_if in
    record {
      works = now.within.works;
      may = now.may;
      net = now.inside;
      at = slice_get_within _ (c.loop-turn.turn - c.turns_of-from.result.0) now.before now.own;
      ground = now.ground;
      had = now.had;
    }

pub loop-turn-preserved : goal.loop-turn-preserved
loop-turn-preserved g c =
    let now = due g (goal.at.loop-turn-preserved g c).After-read_if in
    reprice_in_part c.requires.share now.of now.within c.requires.pass.some now.place
    (c.in_ok-reprice_net.ensures.repriced now.net now.before now.stands now.own) c.reprice_net.ensures.setting

pub returns : goal.returns
returns g c =
    let start = turns_begin c.args.worker c.requires.pass c.turns_of-from.ensures.from in
    let end = turns_begin (c.args.worker + 1) c.requires.pass c.turns_of-from.ensures.to in
    let last : c.loop-turn.turn ≡ turns_start (pass_in c.args.input) (c.args.worker + 1) =
    omega (arith, c.loop-turn-test.false, c.loop-turn.auto.turn-end, end, c.turns_of-from.ensures.within.0) in
    rw (c.finish.ensures.share, c.finish.ensures.trees)
    (record { turns = ends_turns c.requires.share.table (rw last at c.loop-turn.invariant) })
