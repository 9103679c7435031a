use Rattle.std.proofs.Common.{refl, ◌∙◌, ap, arith}
use Rattle.price_workers.proofs.Common.{Holding, IsCounted-via}
use Rattle.price_workers.proofs.Taken.{counted_all, edge_taken, next_edge}
use Rattle.price_workers.proofs.TurnFacts.{DiffersInShares-trans, share_wide}
use Rattle.price_workers.proofs.taking.take_edges.Goals.{in-Edge, in_default}
use Rattle.price_workers.proofs.taking.take_edges.Goals as goal

pub loop-p-preserved : goal.loop-p-preserved
loop-p-preserved c =
    let inv = c.loop-p.invariant in
    let its = c.pieces-p-items.ensures in
    elim c.match-p.branch [
      | in-Edge w ↦
          let next = next_edge c.args.grid.now c.args.width _ w.in-Edge.e its.listed its.rising c.requires.had.pieces
          c.loop-p-test.true w.in-Edge.is w.demand.ensures.value w.demand.ensures.limit w.from.ensures in
          rw w.share-is (record {
            shares = rw w.sub.ensures.event (edge_taken next
                (share_wide c.args.grid.now c.requires.share c.requires.table c.requires.words)
                (share_wide c.args.grid.now inv.valid (inv.table ∙ c.requires.table) c.requires.words)
                its.listed c.requires.had.had inv.shares).1;
            party = rw w.sub.ensures.event (DiffersInShares-trans c.args.share.now.party c.loop-p.share.party _ inv.party refl);
            table = ap (λ (h : Holding). h.table) w.sub.ensures.event ∙ inv.table;
            valid = w.sub.ensures.share;
          })
      | in_default w ↦
          rw w.share-is (record {
            shares = IsCounted-via _ _ _ _ _ w.in_default.field-0 _ _ c.loop-p-test.true w.in_default.is inv.shares;
            party = inv.party;
            table = inv.table;
            valid = inv.valid;
          })
    ]

pub returns-clause-shares : goal.returns-clause-shares
returns-clause-shares c =
    counted_all c.pieces-p-items.ensures.listed (omega (arith, c.loop-p-test.false)) c.loop-p.invariant.shares

-- an edge of the set still has its load on the share
pub sub-requires-clause-had : goal.sub-requires-clause-had
sub-requires-clause-had c =
    let inv = c.loop-p.invariant in
    let its = c.pieces-p-items.ensures in
    let next = next_edge c.args.grid.now c.args.width _ c.in-Edge.e its.listed its.rising c.requires.had.pieces
    c.loop-p-test.true c.in-Edge.is c.demand.ensures.value c.demand.ensures.limit c.from.ensures in
    (edge_taken next (share_wide c.args.grid.now c.requires.share c.requires.table c.requires.words)
    (share_wide c.args.grid.now inv.valid (inv.table ∙ c.requires.table) c.requires.words)
    its.listed c.requires.had.had inv.shares).0
