use Rattle.std.proofs.Common.{ℕ, Contains, sym, eqb}
use Rattle.std.specs.Prelude.{◌↔◌}
use Rattle.std.proofs.lemmas.List.Filters.{dedup_is}
use Rattle.std.proofs.lemmas.List.Kept.{Contains-dedup_nat, Contains-from_dedup}
use Rattle.std.proofs.lemmas.List.Sorted.{Contains-permutation, IsPermutation-sym}
use Rattle.std.proofs.lemmas.Map.Keys.{IsStrictlyIncreasing-dedup}
use Rattle.guide_text.proofs.Vertices.{tiles_are_vertices, same_are_vertices}
use Rattle.guide_text.proofs.tiles.Tiles.of_route.Goals.{After-dedup}
use Rattle.guide_text.proofs.tiles.Tiles.of_route.Goals as goal

-- the numbers that are left are those that were listed
same_numbers : (c : After-dedup) (v : ℕ) → Contains c.dedup.new.self.items v ↔ Contains c.in_ok-numbers.numbers.items v
same_numbers c v =
    let given = c.in_ok-numbers.numbers.items in
    let sorted = c.sort_unstable.new.self.items in
    let moved = c.sort_unstable.ensures.permutation in
    let left = dedup_is eqb _ _ c.dedup.ensures.filtered in
    rw left (
      λ h. Contains-permutation sorted given v (IsPermutation-sym given sorted moved) (Contains-from_dedup eqb sorted v h),
      λ h. Contains-dedup_nat sorted v (Contains-permutation given sorted v moved h),
    )

pub invariant_of-result-clause-rising : goal.invariant_of-result-clause-rising
invariant_of-result-clause-rising c =
    let left = dedup_is eqb _ _ c.dedup.ensures.filtered in
    rw left (IsStrictlyIncreasing-dedup c.sort_unstable.new.self.items c.sort_unstable.ensures.sorted)

pub invariant_of-result-clause-vertices : goal.invariant_of-result-clause-vertices
invariant_of-result-clause-vertices c =
    let s = c.args.size in
    same_are_vertices s c.dedup.new.self.items c.in_ok-numbers.numbers.items (same_numbers (goal.at.invariant_of-result-clause-vertices c).After-dedup)
    (rw c.in_ok-numbers.ensures (tiles_are_vertices s c.args.tree.now c.args.terminals.now c.requires.pieces c.requires.terminals))

pub returns-clause-same : goal.returns-clause-same
returns-clause-same c v = rw (sym c.in_ok-numbers.ensures) (same_numbers (goal.at.returns-clause-same c).After-dedup v)
