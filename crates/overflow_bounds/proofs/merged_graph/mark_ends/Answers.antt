use Rattle.std.proofs.Common.{sym, subst}
use Rattle.grid_base.specs.declared.piece.Piece.{Piece}
use Rattle.grid_base.specs.declared.piece.Piece.TheVariants.{Edge}
use Rattle.grid_base.specs.declared.size.Size.{Size}
use Rattle.grid_base.specs.Numbers.{IsPiece}
use Rattle.overflow_bounds.proofs.merged_graph.mark_ends.Goals as goal

pub ends_of-requires : goal.ends_of-requires
ends_of-requires g c =
    let p : Piece = Edge c.args.e in
    subst (λ (s : Size). IsPiece s p) (sym c.requires.size) (g.met.W.Weights.inside c.args.weights.now p (c.allows.ensures.0 c.if-not-allows.false))
