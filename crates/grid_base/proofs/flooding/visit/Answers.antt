use Rattle.std.proofs.Common.{subst}
use Rattle.grid_base.specs.Flood.{IsMarked}
use Rattle.grid_base.proofs.Floods.{IsFlooding-again, IsFlooding-pushed}
use Rattle.grid_base.proofs.Lists.{At-push, member_from_place}
use Rattle.grid_base.proofs.flooding.visit.Goals as goal
use Rattle.grid_base.proofs.flooding.visit.Goals.{else-allows-via-then-allows+in_ok-mark+else-branch, else-allows-via-else-allows}

pub returns-in_ok-push-clause-flooding : goal.returns-in_ok-push-clause-flooding
returns-in_ok-push-clause-flooding g c before start n at flooding =
    let old = g.M.Marks.mark_of c.args.marks.now in
    let new = g.M.Marks.mark_of c.mark.new.self in
    let mark = g.M.Marks.next_mark c.args.marks.now in
    let met = c.args.met.now.items in
    rw c.in_ok-push.ensures.items
    (IsFlooding-pushed c.args.size (g.P.PieceSet.pieces c.args.pieces.now) before old new mark start met n c.args.from c.args.to flooding
    (member_from_place met n c.args.from at)
    (record { piece = c.args.by; in_set = c.allows.ensures.0 c.if-allows.true; connects = c.requires.connects })
    (subst (IsMarked old new mark c.args.to.0) c.if-branch.true c.in_ok-mark.ensures.marked))

pub returns-in_ok-push-clause-listed : goal.returns-in_ok-push-clause-listed
returns-in_ok-push-clause-listed g c n at = rw c.in_ok-push.ensures.items (At-push c.args.met.now.items c.args.to c.args.from n at)

pub returns-else-allows-clause-flooding : goal.returns-else-allows-clause-flooding
returns-else-allows-clause-flooding g c before start n at flooding =
    elim c.else-allows.branch [
      | else-allows-via-then-allows+in_ok-mark+else-branch w ↦
          let old = g.M.Marks.mark_of c.args.marks.now in
          let new = g.M.Marks.mark_of w.mark.new.self in
          let mark = g.M.Marks.next_mark c.args.marks.now in
          rw w.marks-is
          (IsFlooding-again c.args.size (g.P.PieceSet.pieces c.args.pieces.now) before old new mark start c.args.met.now.items n c.args.to.0 flooding
          (subst (IsMarked old new mark c.args.to.0) w.if-branch.false w.in_ok-mark.ensures.marked))
      | else-allows-via-else-allows w ↦ rw w.marks-is flooding
    ]
