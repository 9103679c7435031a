use Rattle.std.proofs.Common.{◌≡◌, ◌∙◌, Contains, All, refl, sym, subst}
use Rattle.std.specs.Prelude.{List}
use Rattle.grid_base.specs.declared.piece.Piece.{Piece}
use Rattle.grid_base.specs.declared.vertex.Vertex.{Vertex}
use Rattle.grid_graph.specs.Grids.{size_of, Allows}
use Rattle.tree_growth.specs.Growns.{IsMarked}
use Rattle.tree_growth.proofs.Joins.{all_of, joined_by}
use Rattle.tree_growth.proofs.grown.Grown.tree.Goals as goal
use Rattle.tree_growth.proofs.grown.Grown.tree.Goals.{After-of}

items : (c : After-of) → c.in_ok-copied.copied.items ≡ c.args.self.now.pieces.items
items c = c.in_ok-copied.ensures.items_if_clones_equal (λ x y same. same) ∙ c.as_slice.ensures.value

pub returns-clause-keeps : goal.returns-clause-keeps
returns-clause-keeps c = λ g over grown.
    all_of (Allows g over) c.args.self.now.pieces.items c.of.result
    (λ p at. subst (λ (xs : List Piece). Contains xs p) (items c) ((c.of.ensures.same p).0 at)) grown.keeps

pub returns-clause-joins : goal.returns-clause-joins
returns-clause-joins c = λ g over grown.
    let pieces = c.args.self.now.pieces.items in
    let reached : All (λ (t : Vertex). IsMarked c.args.self.now t.0) c.args.terminals.now = c.if-not-has_all.ensures.0 refl in
    joined_by (size_of g) pieces c.of.result c.args.terminals.now c.args.self.now.root.0
    (λ p at. (c.of.ensures.same p).1 (subst (λ (xs : List Piece). Contains xs p) (sym (items c)) at))
    (λ k d within. grown.walks _ (reached k d within))
