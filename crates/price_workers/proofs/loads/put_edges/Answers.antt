use Rattle.std.proofs.Common.{refl, sym, ◌∙◌, ap, arith}
use Rattle.price_workers.proofs.Common.{Holding, KeepsSetting-trans, IsCounted-via}
use Rattle.price_workers.proofs.Taken.{counted_all, edge_put, next_edge}
use Rattle.price_workers.proofs.TurnFacts.{DiffersInShares-trans, kept_long, share_wide}
use Rattle.price_workers.proofs.loads.put_edges.Goals.{in-Edge, in_default}
use Rattle.price_workers.proofs.loads.put_edges.Goals as goal

pub loop-p-preserved : goal.loop-p-preserved
loop-p-preserved c =
    let inv = c.loop-p.invariant in
    let its = c.pieces-p-items.ensures in
    elim c.match-p.branch [
      | in-Edge w ↦
          let next = next_edge c.args.grid.now c.args.width _ w.in-Edge.e its.listed its.rising c.requires.pieces
          c.loop-p-test.true w.in-Edge.is w.demand.ensures.value w.demand.ensures.limit w.from.ensures in
          let long = kept_long c.loop-p.kept (inv.setting.grid ∙ c.requires.grid) in
          let wide = share_wide c.args.grid.now inv.valid (inv.table ∙ c.requires.table) c.requires.words in
          rw (w.share-is, w.kept-is) (record {
            share = rw w.raise.ensures.event (edge_put next wide inv.share);
            seen = rw w.raise.ensures.seen (edge_put next long inv.seen);
            party = rw w.raise.ensures.event (DiffersInShares-trans c.args.share.now.party c.loop-p.share.party _ inv.party refl);
            table = ap (λ (h : Holding). h.table) w.raise.ensures.event ∙ sym c.requires.table;
            setting = KeepsSetting-trans _ _ _ inv.setting w.raise.ensures.setting;
            valid = w.raise.ensures.valid;
          })
      | in_default w ↦
          rw (w.share-is, w.kept-is) (record {
            share = IsCounted-via _ _ _ _ _ w.in_default.field-0 _ _ c.loop-p-test.true w.in_default.is inv.share;
            seen = IsCounted-via _ _ _ _ _ w.in_default.field-0 _ _ c.loop-p-test.true w.in_default.is inv.seen;
            party = inv.party;
            table = inv.table;
            setting = inv.setting;
            valid = inv.valid;
          })
    ]

pub returns-clause-seen : goal.returns-clause-seen
returns-clause-seen c =
    counted_all c.pieces-p-items.ensures.listed (omega (arith, c.loop-p-test.false)) c.loop-p.invariant.seen

pub returns-clause-share : goal.returns-clause-share
returns-clause-share c =
    counted_all c.pieces-p-items.ensures.listed (omega (arith, c.loop-p-test.false)) c.loop-p.invariant.share
