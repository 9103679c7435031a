use Rattle.std.proofs.Common.{sym, subst, arith}
use Rattle.shortest_paths.specs.LabelWords.{label_of}
use Rattle.steiner_tables.proofs.Roots.{root_mask}
use Rattle.steiner_exact.specs.Reading.{AreReached, IsTreeWithin}
use Rattle.steiner_exact.specs.Roots.{root_of}
use Rattle.steiner_exact.proofs.Attempts.{tree_is_found, few_masks}
use Rattle.steiner_exact.proofs.trees.least_of_several.Goals as goal

pub read_tree-requires-clause-some : goal.read_tree-requires-clause-some
read_tree-requires-clause-some g c = rw c.all_but_root_of-mask.ensures (root_mask c.args.terminals.now c.requires.two).0

pub read_tree-requires-clause-mask : goal.read_tree-requires-clause-mask
read_tree-requires-clause-mask g c = omega (arith, few_masks c.args.terminals.now c.requires.few, c.all_but_root_of-mask.ensures)

pub read_tree-requires-clause-room : goal.read_tree-requires-clause-room
read_tree-requires-clause-room g c = omega (arith, few_masks c.args.terminals.now c.requires.few, c.all_but_root_of-mask.ensures, c.least_by_tiles.ensures.labels.grid_room)

pub read_tree-requires-clause-reached : goal.read_tree-requires-clause-reached
read_tree-requires-clause-reached g c =
    subst (λ m. AreReached (g.W.Weights.size c.args.weights.now) (g.W.Weights.pieces c.args.weights.now) c.args.terminals.now m (label_of c.least_by_tiles.new.labels.grid))
    (sym c.all_but_root_of-mask.ensures) c.in_ok-weight.ensures.least.reached

pub returns-clause-tree : goal.returns-clause-tree
returns-clause-tree g c =
    let s = g.W.Weights.size c.args.weights.now in
    let pieces = g.W.Weights.pieces c.args.weights.now in
    let terminals = c.args.terminals.now in
    let number = label_of c.least_by_tiles.new.labels.grid in
    tree_is_found s pieces terminals number c.in_ok-weight.weight c.in_ok-tree.tree c.requires.two c.in_ok-weight.ensures.least c.in_ok-tree.ensures.rising
    (subst (λ m. IsTreeWithin s pieces terminals m (root_of terminals).0 (number m (root_of terminals).0) c.in_ok-tree.tree) c.all_but_root_of-mask.ensures c.in_ok-tree.ensures.tree)
