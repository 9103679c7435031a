use Rattle.std.proofs.Common.{refl, sym, subst, arith}
use Rattle.std.specs.Bool.{IsTrue}
use Rattle.grid_base.specs.declared.piece.Piece.{Piece}
use Rattle.grid_base.specs.declared.piece.Piece.TheVariants.{Edge}
use Rattle.grid_base.specs.declared.size.Size.{Size}
use Rattle.grid_base.specs.Numbers.{IsPiece}
use Rattle.overflow_bounds.proofs.Merging.{past_edge, within_node, linked}
use Rattle.overflow_bounds.proofs.merged_graph.add_link.Goals as goal

pub ends_of-requires : goal.ends_of-requires
ends_of-requires g c =
    let p : Piece = Edge c.args.e in
    subst (λ (s : Size). IsPiece s p) (sym c.requires.size) (g.met.W.Weights.inside c.args.weights.now p (c.allows.ensures.0 c.if-not-allows.false))

pub returns-then-not-allows : goal.returns-then-not-allows
returns-then-not-allows g c =
    past_edge c.args.size (g.W.Weights.pieces c.args.weights.now) c.args.nodes.now c.args.e.0 c.args.links.now.items c.requires.before
    (λ allowed. let yes : IsTrue c.allows.result = c.allows.ensures.1 allowed in cc)

pub returns-then-one-other : goal.returns-then-one-other
returns-then-one-other g c =
    within_node c.args.size (g.W.Weights.pieces c.args.weights.now) c.args.nodes.now c.args.e.0 c.args.links.now.items c.ends_of.result.0.0 c.ends_of.result.1.0
    c.requires.before c.ends_of.ensures.start c.ends_of.ensures.end c.if-one-other.true

pub returns : goal.returns
returns g c =
    let ends = c.ends_of.ensures.neighbours in
    linked c.args.size (g.W.Weights.pieces c.args.weights.now) c.args.nodes.now c.args.e.0 c.args.links.now.items c.push.new.self.items _ c.ends_of.result.0.0 c.ends_of.result.1.0
    c.requires.before c.in_ok-push.ensures.items c.ends_of.ensures.start c.ends_of.ensures.end (omega (arith, ends.0, c.requires.long)) (omega (arith, ends.1, c.requires.long)) refl refl c.weight.ensures.value
