use Rattle.std.proofs.Common.{All, sym, subst}
use Rattle.std.proofs.lemmas.List.Elements.{All-push}
use Rattle.grid_base.specs.declared.vertex.Vertex.{Vertex}
use Rattle.grid_base.specs.Numbers.{IsVertex}
use Rattle.steiner_exact.proofs.guess.list_way.Goals as goal

pub loop-before-init : goal.loop-before-init
loop-before-init g c =
    let P : Vertex → Type 0 = λ v. IsVertex (g.W.Weights.size c.args.weights.now) v.0 in
    record {
      vertex = c.requires.goal;
      tree = subst (All P) (sym c.in_ok-push.ensures.items) (All-push P c.args.tree.now.items c.args.goal c.requires.tree c.requires.goal);
    }

pub loop-before-preserved : goal.loop-before-preserved
loop-before-preserved g c =
    let P : Vertex → Type 0 = λ v. IsVertex (g.W.Weights.size c.args.weights.now) v.0 in
    record {
      vertex = c.in-Some.ensures.vertex;
      tree = subst (All P) (sym c.in_ok-push-2.ensures.items) (All-push P c.loop-before.tree.items c.in-Some.before c.loop-before.invariant.tree c.in-Some.ensures.vertex);
    }
