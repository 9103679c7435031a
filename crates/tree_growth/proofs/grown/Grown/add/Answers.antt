use Rattle.std.proofs.Common.{refl, sym, subst, inl, inr}
use Rattle.grid_base.specs.declared.size.Size.{Size}
use Rattle.grid_base.specs.Numbers.{IsPiece}
use Rattle.grid_graph.specs.Grids.{Allows}
use Rattle.grid_graph.proofs.Allowed.{Allows-IsPiece}
use Rattle.tree_growth.proofs.grown.Grown.add.Goals as goal

pub ends_of-requires : goal.ends_of-requires
ends_of-requires c =
    let g = c.args.grid.now in
    let allowed : Allows g c.args.over c.args.piece = c.if-not-allows.ensures.0 refl in
    subst (λ (z : Size). IsPiece z c.args.piece) (sym c.requires.size) (Allows-IsPiece g c.args.over c.args.piece allowed)

pub join-requires-clause-connects : goal.join-requires-clause-connects
join-requires-clause-connects c =
    let g = c.args.grid.now in
    let allowed : Allows g c.args.over c.args.piece = c.if-not-allows.ensures.0 refl in
    inl (subst (λ (z : Size). IsPiece z c.args.piece) (sym c.requires.size) (Allows-IsPiece g c.args.over c.args.piece allowed), sym c.ends_of.ensures.start, sym c.ends_of.ensures.end)

pub join-requires-then-has-2-clause-connects : goal.join-requires-then-has-2-clause-connects
join-requires-then-has-2-clause-connects c =
    let g = c.args.grid.now in
    let allowed : Allows g c.args.over c.args.piece = c.if-not-allows.ensures.0 refl in
    inr (subst (λ (z : Size). IsPiece z c.args.piece) (sym c.requires.size) (Allows-IsPiece g c.args.over c.args.piece allowed), sym c.ends_of.ensures.start, sym c.ends_of.ensures.end)
