use Rattle.std.proofs.Common.{List, ◌∙◌, ap, arith}
use Rattle.std.proofs.lemmas.List.Sums.{sum_by_more_le}
use Rattle.grid_base.specs.declared.piece.Piece.{Piece}
use Rattle.tree_set.specs.Loads.{load_on}
use Rattle.rounding_pick.proofs.taking.take_phases.Goals as goal

-- the load of a phase that is left is still in the share
pub take_routing-requires-clause-had : goal.take_routing-requires-clause-had
take_routing-requires-clause-had c r within =
    let d = c.args.design.now in
    let phases = c.args.phases.now in
    let i = c.loop-trees.trees-index in
    omega (
      arith,
      c.loop-trees.invariant.shares r within,
      c.requires.had r within,
      sum_by_more_le (λ (trees : List (List Piece)). load_on d.grid d.nets trees r) phases i c.trees-item.result c.loop-trees-test.true,
      ap (λ (trees : List (List Piece)). load_on d.grid d.nets trees r) (c.list.ensures ∙ c.trees-item.is),
    )
