use Rattle.std.proofs.Common.{refl}
use Rattle.negotiation.proofs.Steps.{improved_itself}
use Rattle.negotiation.proofs.descending.run_passes.Goals as goal

pub loop-pass-init : goal.loop-pass-init
loop-pass-init g c = record { improved = improved_itself c.args.design.now c.args.state.now c.requires.state; idle = λ none. refl; tools = c.requires.tools }
