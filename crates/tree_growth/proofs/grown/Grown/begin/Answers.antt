use Rattle.std.proofs.Common.{sym, subst}
use Rattle.std.proofs.lemmas.List.Elements.{All-nil}
use Rattle.grid_base.specs.declared.size.Size.{Size}
use Rattle.grid_base.specs.Numbers.{IsVertex}
use Rattle.grid_base.specs.Walks.{WalkBetween, InPieces}
use Rattle.grid_base.proofs.Walks.{WalkBetween-refl}
use Rattle.grid_graph.specs.Grids.{size_of, Allows}
use Rattle.tree_growth.proofs.Joins.{only_root}
use Rattle.tree_growth.proofs.grown.Grown.begin.Goals as goal

pub returns-clause-grown : goal.returns-clause-grown
returns-clause-grown c = λ g over size.
    let root = c.args.root.0 in
    let vertex : IsVertex (size_of g) root = subst (λ (z : Size). IsVertex z root) size c.requires.root in
    record {
      keeps = rw c.clear.ensures.items (All-nil (Allows g over));
      walks = λ v marked. subst (WalkBetween (size_of g) (InPieces c.clear.new.self.items) root)
          (sym (only_root c.renew.new.self.marks.items root c.renew.new.self.mark v c.renew.new.self.past marked))
          (WalkBetween-refl (size_of g) (InPieces c.clear.new.self.items) root vertex);
    }
