use Rattle.std.proofs.Common.{◌<◌, ℕ, List, length, get_or, sym, arith}
use Rattle.std.proofs.lemmas.Option.{slice_get-get_or}
use Rattle.grid_base.specs.declared.piece.Piece.{Piece}
use Rattle.grid_base.specs.Lists.{At}
use Rattle.price_workers.proofs.TurnFacts.{At-read}
use Rattle.sharing_runs.specs.RepairRuns.{at_positions}
use Rattle.routing_passes.proofs.Positions.{at_positions-at, slice-push}
use Rattle.routing_passes.proofs.old_sets.copies.Goals as goal

pub loop-i-preserved : goal.loop-i-preserved
loop-i-preserved c =
    let trees : List (List Piece) = c.args.trees.now in
    let ks : List ℕ = c.args.positions.now in
    let i : ℕ = c.loop-i.i in
    let k : ℕ = get_or ks i 0 in
    let t : List Piece = c.index-trees-positions.result in
    let short : i < length ks = omega (arith, c.loop-i-test.true, c.loop-i.auto.i-end, c.requires.range) in
    let stands : At trees k t = At-read trees k t c.index-trees-positions.is (c.requires.positions i 0 short) in
    let here : At (at_positions trees ks) i t =
    at_positions-at trees ks i k t c.requires.positions (slice_get-get_or ks i 0 short) stands in
    rw (c.in_ok-push.ensures.items, c.loop-i.invariant, c.in_ok-copy.ensures.same)
    (sym (slice-push (at_positions trees ks) c.args.from i t here c.loop-i.auto.i))
