use Rattle.std.proofs.lemmas.Slice.Zip.{AllZip-long}
use Rattle.route_judge.specs.NetSets.{AreSetsOf, IsSetOfNet}
use Rattle.judge_laws.proofs.SetPieces.{sets_are_pieces}
use Rattle.guide_cli.proofs.guiding.answer_on.Goals as goal
use Rattle.guide_cli.proofs.guiding.answer_on.Goals.{After-as_slice}

-- the sets that the judge kept
kept_sets : (c : After-as_slice) → AreSetsOf c.args.read.now.grounded.design c.args.read.now.blocks c.in-Yes.trees.items
kept_sets c = rw c.in-Yes.is at c.in_ok-trees.ensures.sets

pub guides_of-requires-clause-one_each : goal.guides_of-requires-clause-one_each
guides_of-requires-clause-one_each c =
    let d = c.args.read.now.grounded.design in
    rw c.as_slice.ensures.value (AllZip-long (IsSetOfNet d.grid c.args.read.now.blocks) d.nets c.in-Yes.trees.items (kept_sets c))

pub guides_of-requires-clause-pieces : goal.guides_of-requires-clause-pieces
guides_of-requires-clause-pieces c =
    let d = c.args.read.now.grounded.design in
    rw c.as_slice.ensures.value (sets_are_pieces d.grid c.args.read.now.blocks d.nets c.in-Yes.trees.items (kept_sets c))
