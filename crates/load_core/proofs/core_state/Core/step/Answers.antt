use Rattle.std.proofs.Common.{sym, subst}
use Rattle.load_core.specs.declared.core_state.Core.{Core}
use Rattle.load_core.specs.Events.{IsFit}
use Rattle.load_core.proofs.Fitness.{fit-after}
use Rattle.load_core.proofs.core_state.Core.step.Goals as goal

pub returns-clause-fit : goal.returns-clause-fit
returns-clause-fit c =
    subst (λ (core : Core). IsFit core) (sym c.in_ok-make.ensures.made)
    (fit-after c.args.self.now c.args.event.now c.requires.fit (c.is_lawful.ensures.0 c.if-not-is_lawful.false))
