use Rattle.std.proofs.Common.{◌∙◌, arith}
use Rattle.landmarks.proofs.Rising.{reset_landmarks}
use Rattle.landmarks.proofs.landmarks.Landmarks.reset.Goals as goal

pub returns : goal.returns
returns g c =
    let w = c.args.weights.now in
    let kept = c.loop-v.invariant in
    reset_landmarks (g.W.Weights.size w) (g.W.Weights.pieces w) c.loop-v.self c.floors-self.result kept.floors
    c.floors-self.ensures.limits c.floors-self.ensures.below (kept.long ∙ c.requires.long)
    (λ k v inside. kept.none k v (omega (arith, inside, kept.long, c.len-v-end.ensures, c.loop-v-test.false)))
