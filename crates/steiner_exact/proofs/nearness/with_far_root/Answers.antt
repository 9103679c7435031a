use Rattle.std.proofs.Common.{List, length, ap, subst, arith}
use Rattle.std.specs.List.Sorted.{IsPermutation}
use Rattle.std.proofs.lemmas.List.Sorted.{IsPermutation-swap}
use Rattle.grid_base.specs.declared.vertex.Vertex.{Vertex}
use Rattle.steiner_exact.proofs.nearness.with_far_root.Goals as goal

pub returns : goal.returns
returns c =
    let same = c.in_ok-ordered.ensures in
    let long = ap (λ (ts : List Vertex). length ts) same in
    subst (λ (ts : List Vertex). IsPermutation ts c.swap.new.self.items) same
    (IsPermutation-swap c.in_ok-ordered.ordered.items c.swap.new.self.items c.farthest-far.result _ (omega (arith, long, c.farthest-far.ensures)) (omega (arith, long, c.requires.some)) c.swap.ensures.items)
