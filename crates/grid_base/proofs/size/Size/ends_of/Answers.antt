-- Where each kind of piece goes, and that the two ends are neighbours.
use Rattle.std.proofs.Common.{◌≡◌, ◌+◌, ◌*◌, sym, ap, ◌∙◌}
use Rattle.grid_base.specs.Numbers.{cols, rows, start_of, end_of}
use Rattle.grid_base.proofs.Pieces.{end_of-along_x, end_of-along_y, end_of-to_next_layer, neighbours_from_goes}
use Rattle.grid_base.proofs.size.Size.ends_of.Goals as goal

to_layer : (c : goal.In-Via) → end_of c.args.self.now c.args.p ≡ c.in-Via.field-0.0 + cols c.args.self.now * rows c.args.self.now
to_layer c = ap (end_of c.args.self.now) c.in-Via.is ∙ end_of-to_next_layer c.args.self.now c.in-Via.field-0.0

pub returns-in-X-clause-end : goal.returns-in-X-clause-end
returns-in-X-clause-end c =
    sym (end_of-along_x c.args.self.now c.args.p c.in-Edge.edge _ c.in-Edge.is c.start-start.ensures (sym c.axis.ensures ∙ c.in-X.is))

pub returns-in-X-clause-neighbours : goal.returns-in-X-clause-neighbours
returns-in-X-clause-neighbours c =
    neighbours_from_goes c.args.self.now c.args.p _ _
    (c.requires, ap start_of c.in-Edge.is ∙ sym c.start-start.ensures, end_of-along_x c.args.self.now c.args.p c.in-Edge.edge _ c.in-Edge.is c.start-start.ensures (sym c.axis.ensures ∙ c.in-X.is))

pub returns-in-Y-clause-end : goal.returns-in-Y-clause-end
returns-in-Y-clause-end c =
    sym (end_of-along_y c.args.self.now c.args.p c.in-Edge.edge _ c.in-Edge.is c.start-start.ensures (sym c.axis.ensures ∙ c.in-Y.is))

pub returns-in-Y-clause-neighbours : goal.returns-in-Y-clause-neighbours
returns-in-Y-clause-neighbours c =
    neighbours_from_goes c.args.self.now c.args.p _ _
    (c.requires, ap start_of c.in-Edge.is ∙ sym c.start-start.ensures, end_of-along_y c.args.self.now c.args.p c.in-Edge.edge _ c.in-Edge.is c.start-start.ensures (sym c.axis.ensures ∙ c.in-Y.is))

pub returns-in-Via-clause-end : goal.returns-in-Via-clause-end
returns-in-Via-clause-end c = sym (to_layer c)

pub returns-in-Via-clause-neighbours : goal.returns-in-Via-clause-neighbours
returns-in-Via-clause-neighbours c =
    neighbours_from_goes c.args.self.now c.args.p _ _ (c.requires, ap start_of c.in-Via.is, to_layer c)
