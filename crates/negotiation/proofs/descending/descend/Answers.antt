use Rattle.negotiation.proofs.Steps.{improved_then}
use Rattle.negotiation.proofs.descending.descend.Goals as goal

pub returns-clause-improved : goal.returns-clause-improved
returns-clause-improved g c =
    improved_then c.args.design.now c.args.state.now c.run_passes.new.state c.run_passes-2.new.state c.in_ok-run_passes.ensures.improved c.in_ok-run_passes-2.ensures.improved
