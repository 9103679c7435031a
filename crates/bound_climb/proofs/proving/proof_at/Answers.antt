use Rattle.std.proofs.Common.{◌∙◌, ap}
use Rattle.brought_bounds.specs.RowLists.{lists_of}
use Rattle.bound_climb.proofs.Proofs.{none_proved, several_proved}
use Rattle.bound_climb.proofs.proving.proof_at.Goals as goal

pub returns-then-terminals-lt2-clause-proves : goal.returns-then-terminals-lt2-clause-proves
returns-then-terminals-lt2-clause-proves g c =
    none_proved (g.W.Weights.size c.args.weights.now) (g.W.Weights.pieces c.args.weights.now) c.args.terminals.now
    (record { rows = c.of-rows.result }) c.if-terminals-lt2.true c.requires.vertices
    (c.of-rows.ensures ∙ ap lists_of c.new.ensures.items)

pub returns-clause-proves : goal.returns-clause-proves
returns-clause-proves g c =
    several_proved (g.W.Weights.size c.args.weights.now) (g.W.Weights.pieces c.args.weights.now) c.args.terminals.now
    c.in_ok-table.table c.in_ok-moats.moats c.if-terminals-lt2.false c.in_ok-table.ensures.table c.in_ok-moats.ensures.moats
