use Rattle.std.proofs.Common.{◌≡◌, ◌++◌, [], ◌∷◌, subst}
use Rattle.std.proofs.lemmas.List.Elements.{All-append, All-cons, All-nil}
use Rattle.grid_base.specs.declared.size.Size.{Size}
use Rattle.grid_base.specs.Numbers.{Connects}
use Rattle.grid_graph.specs.Grids.{size_of, Allows}
use Rattle.tree_growth.proofs.Joins.{walks_on}
use Rattle.tree_growth.proofs.grown.Grown.join.Goals as goal

pub returns-clause-grown : goal.returns-clause-grown
returns-clause-grown c = λ g over size allowed grown.
    let s = c.args.self.now in
    let piece = c.args.piece in
    let items : c.push.new.self.items ≡ s.pieces.items ++ piece ∷ [] = c.in_ok-push.ensures.items in
    let connects : Connects (size_of g) piece c.args.from.0 c.args.to.0 = subst (λ (z : Size). Connects z piece c.args.from.0 c.args.to.0) size c.requires.connects in
    record {
      keeps = rw items (All-append (Allows g over) s.pieces.items (piece ∷ []) grown.keeps (All-cons (Allows g over) piece [] allowed (All-nil (Allows g over))));
      walks = λ v marked. rw items (walks_on (size_of g) s.marks.items s.pieces.items s.mark s.root.0 c.args.from.0 c.args.to.0 piece connects c.requires.from grown.walks v marked);
    }
