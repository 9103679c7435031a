use Rattle.std.proofs.Common.{◌∙◌, arith}
use Rattle.price_workers.proofs.Common.{KeepsSetting-trans, IsCounted-via}
use Rattle.price_workers.proofs.Taken.{counted_all, edge_put, next_edge}
use Rattle.price_workers.proofs.TurnFacts.{kept_long}
use Rattle.price_workers.proofs.loads.notice_edges.Goals.{in-Edge, in_default}
use Rattle.price_workers.proofs.loads.notice_edges.Goals as goal

pub loop-p-preserved : goal.loop-p-preserved
loop-p-preserved c =
    let inv = c.loop-p.invariant in
    let its = c.pieces-p-items.ensures in
    elim c.match-p.branch [
      | in-Edge w ↦
          let next = next_edge c.args.grid.now c.args.width _ w.in-Edge.e its.listed its.rising c.requires.pieces
          c.loop-p-test.true w.in-Edge.is w.demand.ensures.value w.demand.ensures.limit w.from.ensures in
          rw w.kept-is (record {
            seen = rw w.lift.ensures.seen (edge_put next (kept_long c.loop-p.kept (inv.setting.grid ∙ c.requires.grid)) inv.seen);
            setting = KeepsSetting-trans _ _ _ inv.setting w.lift.ensures.setting;
          })
      | in_default w ↦
          rw w.kept-is (record {
            seen = IsCounted-via _ _ _ _ _ w.in_default.field-0 _ _ c.loop-p-test.true w.in_default.is inv.seen;
            setting = inv.setting;
          })
    ]

pub returns-clause-seen : goal.returns-clause-seen
returns-clause-seen c =
    counted_all c.pieces-p-items.ensures.listed (omega (arith, c.loop-p-test.false)) c.loop-p.invariant.seen
