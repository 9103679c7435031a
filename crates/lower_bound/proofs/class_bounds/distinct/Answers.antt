use Rattle.std.proofs.Common.{◌≡◌, true, ap, eqb-true, arith}
use Rattle.std.proofs.lemmas.List.Filters.{dedup_is}
use Rattle.std.proofs.lemmas.List.Kept.{Contains-dedup, Contains-from_dedup}
use Rattle.std.proofs.lemmas.List.Sorted.{Contains-permutation, IsPermutation-sym, length_permutation}
use Rattle.std.specs.List.{dedup}
use Rattle.grid_base.specs.contracts.vertex.VertexPartialEq.TheImpl as equal
use Rattle.grid_base.specs.contracts.vertex.VertexEq.TheImpl.Laws.{laws-law}
use Rattle.grid_base.specs.declared.vertex.Vertex.{Vertex}
use Rattle.lower_bound.proofs.class_bounds.distinct.Goals as goal

left : (c : goal.After-dedup) → c.dedup.new.self.items ≡ dedup equal.ghosts.eq c.sort_unstable.new.self.items
left c = dedup_is equal.ghosts.eq _ _ c.dedup.ensures.filtered

same_vertex : (a b : Vertex) → equal.ghosts.eq a b ≡ true → a ≡ b
same_vertex a b h = ap (λ n. record { 0 = n }) (eqb-true a.0 b.0 h)

pub returns-clause-same : goal.returns-clause-same
returns-clause-same c v =
    let given = c.args.tiles.items in
    let sorted = c.sort_unstable.new.self.items in
    let moved = c.sort_unstable.ensures.permutation in
    rw (left c) (
      λ h. Contains-permutation sorted given (record { 0 = v }) (IsPermutation-sym given sorted moved) (Contains-from_dedup equal.ghosts.eq sorted (record { 0 = v }) h),
      λ h. Contains-dedup laws-law same_vertex sorted (record { 0 = v }) (Contains-permutation given sorted (record { 0 = v }) moved h),
    )

pub returns-clause-fewer : goal.returns-clause-fewer
returns-clause-fewer c =
    omega (arith, c.dedup.ensures.bound, c.dedup.new.self.ok.0, c.sort_unstable.new.self.ok.0, length_permutation c.args.tiles.items c.sort_unstable.new.self.items c.sort_unstable.ensures.permutation)
