use Rattle.std.proofs.Common.{◌≡◌, ◌<◌, ◌+◌, ◌-◌, ℕ, [], ◌∷◌, sym, ◌∙◌, subst, arith}
use Rattle.std.proofs.lemmas.Option.{slice_get_read}
use Rattle.grid_base.specs.Flood.{IsMarked, IsFlooding}
use Rattle.grid_base.specs.Numbers.{vertices}
use Rattle.grid_base.proofs.Floods.{IsFlooding-first, IsFlooded-from_flooding, IsFlooded-again, met-le, met_vertex}
use Rattle.grid_base.proofs.flooding.flood.Goals as goal

pub returns-then-not-branch-clause-flooded : goal.returns-then-not-branch-clause-flooded
returns-then-not-branch-clause-flooded g c =
    let old = g.M.Marks.mark_of c.args.marks.now in
    let new = g.M.Marks.mark_of c.mark.new.self in
    let mark = g.M.Marks.next_mark c.args.marks.now in
    IsFlooded-again c.args.size (g.P.PieceSet.pieces c.args.pieces.now) old new mark c.args.start.0 c.requires.closed
    (subst (IsMarked old new mark c.args.start.0) c.if-not-branch.true c.in_ok-mark.ensures.marked)

pub loop-done-init : goal.loop-done-init
loop-done-init g c =
    let old = g.M.Marks.mark_of c.args.marks.now in
    let new = g.M.Marks.mark_of c.mark.new.self in
    let mark = g.M.Marks.next_mark c.args.marks.now in
    let listed : c.push.new.self.items ≡ c.args.start ∷ [] = rw c.clear.ensures.items at c.in_ok-push.ensures.items in
    record {
      flooding = rw listed (IsFlooding-first c.args.size (g.P.PieceSet.pieces c.args.pieces.now) old new mark c.args.start c.requires.start
          (subst (IsMarked old new mark c.args.start.0) c.if-not-branch.false c.in_ok-mark.ensures.marked));
      next = c.in_ok-mark.ensures.next;
      limit = c.in_ok-mark.ensures.limit;
    }

pub spread-requires-clause-from : goal.spread-requires-clause-from
spread-requires-clause-from g c =
    met_vertex c.args.size (g.P.PieceSet.pieces c.args.pieces.now) (g.M.Marks.mark_of c.args.marks.now) (g.M.Marks.mark_of c.loop-done.marks) (g.M.Marks.next_mark c.args.marks.now) c.args.start.0
    c.loop-done.met.items c.loop-done.done c.loop-done.done c.index-from.result.now c.loop-done.invariant.flooding
    (slice_get_read c.loop-done.met.items c.len.result c.loop-done.done c.index-from.result.now (omega (arith, c.len.ensures)) c.loop-done-test.true c.index-from.ensures)

pub spread-requires-clause-limit : goal.spread-requires-clause-limit
spread-requires-clause-limit g c = rw c.loop-done.invariant.limit c.requires.limit

pub loop-done-smaller : goal.loop-done-smaller
loop-done-smaller g c =
    let s = c.args.size in
    let done = c.loop-done.done in
    let most = met-le s (g.P.PieceSet.pieces c.args.pieces.now) (g.M.Marks.mark_of c.args.marks.now) (g.M.Marks.mark_of c.loop-done.marks) (g.M.Marks.next_mark c.args.marks.now) c.args.start.0 c.loop-done.met.items done c.loop-done.invariant.flooding in
    let smaller : vertices s - (done + 1) < vertices s - done = omega (arith, most, c.loop-done-test.true, c.len.ensures) in
    smaller

pub loop-done-preserved : goal.loop-done-preserved
loop-done-preserved g c =
    let s = c.args.size in
    let F = g.P.PieceSet.pieces c.args.pieces.now in
    let old = g.M.Marks.mark_of c.args.marks.now in
    let now = g.M.Marks.mark_of c.loop-done.marks in
    let new = g.M.Marks.mark_of c.spread.new.marks in
    let invariant = c.loop-done.invariant in
    let after = c.in_ok-spread.ensures in
    record {
      flooding = subst (λ (m : ℕ). IsFlooding s F old new m c.args.start.0 c.spread.new.met.items (c.loop-done.done + 1)) invariant.next
          (after.flooding old c.args.start.0 c.loop-done.done
          (slice_get_read c.loop-done.met.items c.len.result c.loop-done.done c.index-from.result.now (omega (arith, c.len.ensures)) c.loop-done-test.true c.index-from.ensures)
          (subst (λ (m : ℕ). IsFlooding s F old now m c.args.start.0 c.loop-done.met.items c.loop-done.done) (sym invariant.next) invariant.flooding));
      next = after.next ∙ invariant.next;
      limit = after.limit ∙ invariant.limit;
    }

pub returns-clause-flooded : goal.returns-clause-flooded
returns-clause-flooded g c =
    IsFlooded-from_flooding c.args.size (g.P.PieceSet.pieces c.args.pieces.now) (g.M.Marks.mark_of c.args.marks.now) (g.M.Marks.mark_of c.loop-done.marks) (g.M.Marks.next_mark c.args.marks.now) c.args.start.0
    c.loop-done.met.items c.loop-done.done c.requires.closed c.loop-done.invariant.flooding (omega (arith, c.loop-done-test.false, c.len.ensures))
