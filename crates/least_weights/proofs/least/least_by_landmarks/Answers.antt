use Rattle.std.proofs.Common.{All, sym, ◌∙◌, subst}
use Rattle.grid_base.specs.declared.size.Size.{Size}
use Rattle.grid_base.specs.declared.vertex.Vertex.{Vertex}
use Rattle.grid_base.specs.Numbers.{IsVertex}
use Rattle.landmarks.specs.Numbers.{AreLandmarks}
use Rattle.least_weights.proofs.least.least_by_landmarks.Goals as goal

pub new-led-requires-clause-vertices : goal.new-led-requires-clause-vertices
new-led-requires-clause-vertices g c =
    subst (λ (x : Size). All (λ (v : Vertex). IsVertex x v.0) c.args.terminals.now) (sym (c.size.ensures ∙ c.requires.labels)) c.requires.vertices

pub new-led-requires-clause-landmarks : goal.new-led-requires-clause-landmarks
new-led-requires-clause-landmarks g c =
    subst (λ (x : Size). AreLandmarks x (g.W.Weights.pieces c.args.weights.now) c.args.landmarks.now) (sym (c.size.ensures ∙ c.requires.labels)) c.requires.landmarks
