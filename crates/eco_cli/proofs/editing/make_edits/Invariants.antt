use Rattle.std.proofs.Common.{take}
use Rattle.eco_laws.specs.EcoChains.{AreEcoSteps}
use Rattle.eco_cli.proofs.editing.make_edits.Given as goal

-- a step for each edit so far
abbrev pub invariant-loop-index : goal.invariant-loop-index
invariant-loop-index l = AreEcoSteps (take l.index l.edits) l.fn.eco l.eco
