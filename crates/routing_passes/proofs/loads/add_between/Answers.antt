use Rattle.std.proofs.Common.{◌<◌, ℕ, List, length, get_or, slice_index_or, ◌∙◌, ap, arith}
use Rattle.std.proofs.lemmas.Option.{slice_get-get_or}
use Rattle.grid_base.specs.declared.piece.Piece.{Piece}
use Rattle.grid_base.specs.Lists.{At}
use Rattle.sharing_runs.specs.RepairRuns.{at_positions}
use Rattle.price_workers.proofs.TurnFacts.{At-read, read_at}
use Rattle.routing_passes.proofs.Positions.{at_positions-at}
use Rattle.routing_passes.proofs.Sums.{load_between-next}
use Rattle.routing_passes.proofs.loads.add_between.Goals as goal

pub loop-i-preserved : goal.loop-i-preserved
loop-i-preserved c =
    let d = c.args.design.now in
    let i = c.loop-i.i in
    let ks : List ℕ = c.args.positions.now in
    let k = get_or ks i 0 in
    let net = slice_index_or c.list-nets.result.now k c.index-nets-net.result in
    let tree : List Piece = c.index-trees-net.result in
    let place : i < length ks = omega (arith, c.loop-i-test.true, c.loop-i.auto.i-end, c.requires.range) in
    let inside : k < length d.nets = c.requires.positions i 0 place in
    let position : At ks i k = slice_get-get_or ks i 0 place in
    let stands : At d.nets k net = read_at d.nets c.list-nets.result.now k c.index-nets-net.result c.list-nets.ensures.items
    (omega (arith, inside, ap length c.list-nets.ensures.items)) in
    let has : At c.args.trees.now k tree =
    At-read c.args.trees.now k tree c.index-trees-net.is (omega (arith, inside, c.requires.sets.long)) in
    let net_stands = at_positions-at d.nets ks i k net c.requires.positions position stands in
    let set_stands = at_positions-at c.args.trees.now ks i k tree
    (λ j e short. omega (arith, c.requires.positions j e short, c.requires.sets.long)) position has in
    let more = λ (r : ℕ). load_between-next d.grid (at_positions d.nets ks) (at_positions c.args.trees.now ks) c.args.from i
    net tree r net_stands set_stands c.loop-i.auto.i in
    record {
      loads = λ r. omega (arith, c.add_tree.ensures.loads r, c.loop-i.invariant.loads r, more r);
      limit = λ r. omega (arith, c.add_tree.ensures.limit r, c.loop-i.invariant.limit r, c.loop-i.auto.i);
      long = c.add_tree.ensures.long ∙ c.loop-i.invariant.long;
    }
