use Rattle.std.proofs.Common.{◌≡◌, ℕ, List, sum, refl, ◌∙◌, ap, subst, arith}
use Rattle.grid_base.specs.declared.size.Size.{Size}
use Rattle.lower_bound.specs.Moats.{AreMoats}
use Rattle.bound_climb.proofs.Low.{moats_small}
use Rattle.bound_climb.proofs.checking.with_moats.Goals as goal

pub sum_of-requires : goal.sum_of-requires
sum_of-requires g c =
    let w = c.args.weights.now in
    let s = g.W.Weights.size w in
    let pieces = g.W.Weights.pieces w in
    let terminals = c.args.terminals.now in
    let radii = c.in-Some.moats.radii in
    let size_is : c.size.result ≡ s = c.size.ensures ∙ c.requires.labels in
    let are = subst (λ (t : Size). AreMoats t pieces terminals radii) size_is (c.if-not-moats_hold.ensures.holds.0 refl) in
    let vertex = c.requires.vertices 0 (record { 0 = 0 }) (omega (arith, c.requires.two)) in
    let small = moats_small s pieces terminals radii (g.met.W.Weights.once w) (g.met.W.Weights.inside w)
    (g.met.W.Weights.small w) c.requires.two (omega (arith, vertex)) c.requires.joined are in
    omega (arith, small, ap (λ (xs : List ℕ). sum xs) c.list.ensures)
