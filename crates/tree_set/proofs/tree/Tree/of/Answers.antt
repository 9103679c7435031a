use Rattle.std.proofs.Common.{◌≡◌, ◌∙◌}
use Rattle.std.proofs.lemmas.List.Filters.{dedup_is}
use Rattle.std.proofs.lemmas.List.Kept.{Contains-dedup, Contains-from_dedup}
use Rattle.std.proofs.lemmas.List.Sorted.{Contains-permutation, IsPermutation-sym}
use Rattle.std.specs.List.{dedup}
use Rattle.grid_base.specs.contracts.piece.PiecePartialEq.TheImpl as equal
use Rattle.tree_set.proofs.Order.{IsRising-dedup, equal-equivalence, same_piece}
use Rattle.tree_set.proofs.tree.Tree.of.Goals as goal

left : (c : goal.After-shrink_to_fit) → c.shrink_to_fit.new.self.items ≡ dedup equal.ghosts.eq c.sort_unstable.new.self.items
left c = c.shrink_to_fit.ensures.items ∙ dedup_is equal.ghosts.eq _ _ c.dedup.ensures.filtered

pub invariant_of-result : goal.invariant_of-result
invariant_of-result c = rw (left c) (IsRising-dedup _ c.sort_unstable.ensures.sorted)

pub returns-clause-rising : goal.returns-clause-rising
returns-clause-rising c = rw (left c) (IsRising-dedup _ c.sort_unstable.ensures.sorted)

pub returns-clause-same : goal.returns-clause-same
returns-clause-same c p =
    let given = c.args.pieces.items in
    let sorted = c.sort_unstable.new.self.items in
    let moved = c.sort_unstable.ensures.permutation in
    rw (left c) (
      λ h. Contains-permutation sorted given p (IsPermutation-sym given sorted moved) (Contains-from_dedup equal.ghosts.eq sorted p h),
      λ h. Contains-dedup equal-equivalence same_piece sorted p (Contains-permutation given sorted p moved h),
    )
