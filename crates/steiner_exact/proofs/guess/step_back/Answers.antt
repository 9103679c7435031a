use Rattle.std.proofs.Common.{◌≡◌, Some, sym, ◌∙◌, ap, subst}
use Rattle.grid_base.specs.declared.size.Size.{Size}
use Rattle.grid_base.specs.Numbers.{Connects, IsVertex}
use Rattle.grid_base.specs.Neighbours.{steps}
use Rattle.grid_base.proofs.Neighbours.{step_read, steps_lead}
use Rattle.grid_base.proofs.Pieces.{end_vertex}
use Rattle.steiner_exact.proofs.guess.step_back.Goals as goal

pub is_behind-requires : goal.is_behind-requires
is_behind-requires g c =
    let s = g.W.Weights.size c.args.weights.now in
    let table : c.steps.result ≡ steps s c.args.here.0 = c.steps.ensures ∙ ap (λ (x : Size). steps x c.args.here.0) (c.size.ensures ∙ c.requires.size) in
    let connects : Connects s c.in-Some.by c.args.here.0 c.in-Some.before.0 = steps_lead s c.args.here.0 c.loop-step.step-index (Some (c.in-Some.before, c.in-Some.by)) c.requires.vertex
    (step_read s c.args.here.0 c.loop-step.step-index c.steps.result _ table c.loop-step-test.true c.in-Some.is) in
    subst (λ (x : Size). IsVertex x c.in-Some.before.0) (sym c.requires.size) (end_vertex s c.in-Some.by c.args.here.0 c.in-Some.before.0 connects)
