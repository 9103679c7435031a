use Rattle.std.proofs.Common.{refl, sym, ◌∙◌, subst, inl}
use Rattle.grid_base.specs.declared.piece.Piece.{Piece}
use Rattle.grid_base.specs.declared.piece.Piece.TheVariants.{Edge}
use Rattle.grid_base.specs.declared.size.Size.{Size}
use Rattle.grid_base.specs.Numbers.{IsPiece, Connects}
use Rattle.grid_base.proofs.Walks.{WalkBetween-piece}
use Rattle.grid_graph.specs.Weighed.{IsAllowed, Weighs}
use Rattle.groups.specs.Joined.{IsParentOr}
use Rattle.lower_bound.specs.Representatives.{IsFree}
use Rattle.lower_bound.proofs.Represented.{free_up_or, joined_freely}
use Rattle.lower_bound.proofs.representatives.join_along.Goals as goal

pub ends_of-requires : goal.ends_of-requires
ends_of-requires g c =
    let p : Piece = Edge c.args.e in
    let allowed : IsAllowed (g.W.Weights.pieces c.args.weights.now) p = c.if-allows.ensures.0 refl in
    subst (λ (s : Size). IsPiece s p) (sym c.requires.size) (g.met.W.Weights.inside c.args.weights.now p allowed)

pub returns-then-weight-eq0 : goal.returns-then-weight-eq0
returns-then-weight-eq0 g c =
    let s = c.args.size in
    let pieces = g.W.Weights.pieces c.args.weights.now in
    let p : Piece = Edge c.args.e in
    let allowed : IsAllowed pieces p = c.if-allows.ensures.0 refl in
    let is : IsPiece s p = subst (λ (x : Size). IsPiece x p) (sym c.requires.size) (g.met.W.Weights.inside c.args.weights.now p allowed) in
    let free : IsFree pieces p = subst (Weighs pieces p) (sym (c.weight.ensures.value allowed.0 allowed.1) ∙ c.if-weight-eq0.true) allowed.1 in
    let start = c.ends_of.result.0.0 in
    let end = c.ends_of.result.1.0 in
    let connects : Connects s p start end = inl (is, sym c.ends_of.ensures.start, sym c.ends_of.ensures.end) in
    let old = c.args.groups.now.parents.items in
    let walk = WalkBetween-piece s (IsFree pieces) p start end free connects in
    joined_freely s pieces (IsParentOr old start end) old c.unite.new.self.parents.items c.requires.leads c.unite.ensures.long
    (free_up_or s pieces old start end c.requires.leads walk) c.unite.ensures.stay
