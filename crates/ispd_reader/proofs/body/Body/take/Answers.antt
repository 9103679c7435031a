use Rattle.std.proofs.Common.{◌∙◌, sym}
use Rattle.ispd_reader.proofs.MachineSteps.{nets_move, adjustments_move, adjusted_ready, nets_ready}
use Rattle.ispd_reader.proofs.NetsEnds.{nets_done}
use Rattle.ispd_reader.proofs.body.Body.take.Goals as goal

pub returns-then-is_done-clause-takes : goal.returns-then-is_done-clause-takes
returns-then-is_done-clause-takes c =
    let b = c.args.self.now in
    let all = nets_done b.nets (sym c.is_done.ensures ∙ c.if-is_done.true) in
    λ made capacities. adjustments_move c.args.token.now c.take.result b c.take.new.grid c.take.new.self made all.0 all.1 capacities c.take.ensures.takes

pub returns-then-is_done-clause-ready : goal.returns-then-is_done-clause-ready
returns-then-is_done-clause-ready c = adjusted_ready c.args.token.now c.take.result c.args.self.now c.take.new.grid c.take.new.self c.requires.ready c.take.ensures.takes c.take.ensures.fits

pub returns-else-is_done-clause-takes : goal.returns-else-is_done-clause-takes
returns-else-is_done-clause-takes c =
    λ made capacities. nets_move c.args.token.now c.take-else-is_done.result c.args.self.now c.take-else-is_done.new.self made capacities c.take-else-is_done.ensures.takes

pub returns-else-is_done-clause-ready : goal.returns-else-is_done-clause-ready
returns-else-is_done-clause-ready c = nets_ready c.take-else-is_done.result c.args.self.now c.take-else-is_done.new.self c.requires.ready c.take-else-is_done.ensures.fits
