use Rattle.std.proofs.Common.{arith}
use Rattle.landmarks.proofs.Lowered.{lowered_from}
use Rattle.landmarks.proofs.beyond_floors.BeyondFloorsWeights.weight.Goals as goal

pub returns-clause-value : goal.returns-clause-value
returns-clause-value g c weight at =
    let x = c.args.self.now in
    let old = lowered_from (g.W.Weights.pieces x.weights.now) x.floors c.args.p weight at in
    omega (arith, old.less, c.weight.ensures.value old.before old.weighs, c.floor.ensures, c.saturating_sub.ensures)
