use Rattle.std.proofs.Common.{◌≡◌, ◌==◌, ◌≤◌, length, get_or, sym, subst, arith}
use Rattle.std.specs.Prelude.{Contains}
use Rattle.std.specs.List.{dedup}
use Rattle.std.proofs.lemmas.List.Elements.{All-contains, Contains-get_or}
use Rattle.std.proofs.lemmas.List.Filters.{dedup_is}
use Rattle.std.proofs.lemmas.List.Kept.{Contains-dedup_nat, Contains-from_dedup}
use Rattle.std.proofs.lemmas.List.Sorted.{Contains-permutation, IsPermutation-sym, length_permutation}
use Rattle.overflow_bounds.specs.NetEnds.{IsNodeOfSome}
use Rattle.overflow_bounds.proofs.net_ends.write_ends.Goals as goal
use Rattle.overflow_bounds.proofs.net_ends.write_ends.Goals.{After-dedup}

-- what is left once each node stands there once
left : (c : After-dedup) → c.dedup.new.self.items ≡ dedup ◌==◌ c.sort_unstable.new.self.items
left c = dedup_is ◌==◌ _ _ c.dedup.ensures.filtered

pub returns-clause-some : goal.returns-clause-some
returns-clause-some c some =
    let written = c.loop-terminal.ends.items in
    let sorted = c.sort_unstable.new.self.items in
    let first : Contains sorted (get_or sorted 0 0) =
    Contains-get_or sorted 0 0 (omega (arith, some, c.loop-terminal.invariant.long, c.loop-terminal-test.false, length_permutation written sorted c.sort_unstable.ensures.permutation)) in
    let kept = Contains-dedup_nat sorted (get_or sorted 0 0) first in
    c.keep_some.ensures.some (subst (λ xs. 1 ≤ length xs) (sym (left (goal.at.returns-clause-some c).After-dedup)) (omega (arith, kept.1)))

pub returns-clause-each : goal.returns-clause-each
returns-clause-each c k d low =
    let written = c.loop-terminal.ends.items in
    let sorted = c.sort_unstable.new.self.items in
    let node = get_or c.keep_some.new.ends.items k d in
    let once : Contains (dedup ◌==◌ sorted) node =
    subst (λ xs. Contains xs node) (left (goal.at.returns-clause-each c).After-dedup) (c.keep_some.ensures.within node (Contains-get_or c.keep_some.new.ends.items k d low)) in
    All-contains (IsNodeOfSome c.args.size c.args.nodes.now c.args.terminals.now) written node c.loop-terminal.invariant.each
    (Contains-permutation sorted written node (IsPermutation-sym written sorted c.sort_unstable.ensures.permutation) (Contains-from_dedup ◌==◌ sorted node once))
