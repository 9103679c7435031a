use Rattle.std.proofs.Common.{arith}
use Rattle.grid_base.proofs.Joined.{JoinsList-from_one}
use Rattle.straight_runs.specs.Runs.{pieces_of}
use Rattle.straight_runs.specs.Touching.{first_of}
use Rattle.straight_runs.proofs.joining.are_in_one_group.Goals as goal

pub returns : goal.returns
returns c sure =
    JoinsList-from_one c.args.size (pieces_of c.args.size c.args.runs.now) c.args.vertices.now (first_of c.args.runs.now c.in-Some-root_at.root)
    (λ k d within. c.loop-v.invariant.reached k d (omega (arith, within, c.loop-v-test.false)))
