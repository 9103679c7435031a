use Rattle.std.proofs.Common.{length, ◌∙◌, arith}
use Rattle.steiner_exact.proofs.Attempts.{few_masks}
use Rattle.steiner_exact.proofs.BoxSteps.{few_masks_all, some_masks_all}
use Rattle.steiner_exact.proofs.TileTables.{tiles_inside, tiles_count}
use Rattle.steiner_exact.proofs.trees.least_under.Goals as goal

pub overflow_sub-all_of : goal.overflow_sub-all_of
overflow_sub-all_of g c =
    omega (arith, c.all_of.ensures, some_masks_all (length c.args.tiles.now) (omega (arith, tiles_count (g.W.Weights.size c.args.weights.now) c.args.terminals.now c.args.tiles.now c.requires.tiles, c.requires.two)))

pub pruned-requires-clause-terminals : goal.pruned-requires-clause-terminals
pruned-requires-clause-terminals g c =
    tiles_inside (g.B.Family.size c.args.bounds.now) (g.W.Weights.size c.args.weights.now) (g.G.Weights.size c.args.ground.now)
    c.args.terminals.now c.args.tiles.now c.requires.flat c.requires.ground_size c.requires.tiles

pub pruned-requires-clause-room : goal.pruned-requires-clause-room
pruned-requires-clause-room g c =
    omega (arith, c.all_of.ensures, few_masks_all (length c.args.tiles.now) (omega (arith, tiles_count (g.W.Weights.size c.args.weights.now) c.args.terminals.now c.args.tiles.now c.requires.tiles, c.requires.few)), c.requires.flat_room)

pub pruned-requires-clause-last : goal.pruned-requires-clause-last
pruned-requires-clause-last g c =
    omega (arith, c.all_of.ensures, some_masks_all (length c.args.tiles.now) (omega (arith, tiles_count (g.W.Weights.size c.args.weights.now) c.args.terminals.now c.args.tiles.now c.requires.tiles, c.requires.two)))

pub root_label-requires-clause-terminals : goal.root_label-requires-clause-terminals
root_label-requires-clause-terminals g c =
    tiles_inside (g.B.Family.size c.args.bounds.now) (g.W.Weights.size c.args.weights.now) _
    c.args.terminals.now c.args.tiles.now c.requires.flat (c.pruned.ensures.size ∙ c.requires.flat_size) c.requires.tiles

pub root_label-requires-clause-room : goal.root_label-requires-clause-room
root_label-requires-clause-room g c =
    omega (arith, few_masks c.args.tiles.now (omega (arith, tiles_count (g.W.Weights.size c.args.weights.now) c.args.terminals.now c.args.tiles.now c.requires.tiles, c.requires.few)), c.requires.flat_room, c.pruned.ensures.masks)

pub least_at_root-requires-clause-room : goal.least_at_root-requires-clause-room
least_at_root-requires-clause-room g c = omega (arith, few_masks c.args.terminals.now c.requires.few, c.requires.room)
