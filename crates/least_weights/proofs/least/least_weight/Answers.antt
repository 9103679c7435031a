use Rattle.std.proofs.Common.{All, sym, ◌∙◌, subst}
use Rattle.grid_base.specs.declared.size.Size.{Size}
use Rattle.grid_base.specs.declared.vertex.Vertex.{Vertex}
use Rattle.grid_base.specs.Numbers.{IsVertex}
use Rattle.least_weights.proofs.FewVertices.{few_least}
use Rattle.least_weights.proofs.least.least_weight.Goals as goal

pub returns-then-terminals-lt2-clause-least : goal.returns-then-terminals-lt2-clause-least
returns-then-terminals-lt2-clause-least g c = few_least (g.W.Weights.size c.args.weights.now) (g.W.Weights.pieces c.args.weights.now) c.args.terminals.now c.if-terminals-lt2.true c.requires.joined

pub new-family-requires-clause-terminals : goal.new-family-requires-clause-terminals
new-family-requires-clause-terminals g c =
    subst (λ (x : Size). All (λ (v : Vertex). IsVertex x v.0) c.args.terminals.now) (sym (c.size.ensures ∙ c.requires.labels)) c.requires.vertices
