use Rattle.std.proofs.Common.{◌∙◌, Bool, ap, length, subst, sym}
use Rattle.route_judge.specs.TestedBlocks.{AreTaken}
use Rattle.route_judge.proofs.AllSets.{all_block_sets}
use Rattle.route_judge.proofs.block_sets.named_sets.Goals as goal

pub missing_nets-requires : goal.missing_nets-requires
missing_nets-requires g c = ap (length {A = Bool}) c.as_slice.ensures.value ∙ c.in_ok-sets.ensures.taken.long

pub returns-clause-sets : goal.returns-clause-sets
returns-clause-sets g c =
    let d = c.args.design.now in
    let blocks = g.B.Blocks.list c.args.blocks in
    let taken = c.in_ok-sets.ensures.taken in
    all_block_sets d blocks c.in_ok-sets.sets.trees.items c.in_ok-sets.sets.taken.nets.items c.in_ok-missing.missing.items c.in_ok-sets.ensures.sets taken
    (c.in_ok-missing.ensures blocks (subst (AreTaken d blocks) (sym c.as_slice.ensures.value) taken))
