use Rattle.std.proofs.Common.{◌∙◌, arith}
use Rattle.price_workers.proofs.Common.{edge_numbers, loads_of, tree_load-added}
use Rattle.price_workers.proofs.Taken.{last_rises}
use Rattle.price_workers.proofs.TurnFacts.{kept_long, same_allot, share_wide}
use Rattle.price_workers.proofs.loads.put_tree.Goals as goal

pub raise-requires-clause-room : goal.raise-requires-clause-room
raise-requires-clause-room c =
    rw (c.vertices-wirelength.ensures, c.size.ensures, c.pieces.ensures.listed)
    (omega (
      arith,
      last_rises c.args.grid.now c.args.width c.args.tree.now c.args.share.now.party.shares c.put_edges.new.share.party.shares
          c.pieces.ensures.rising c.requires.pieces c.put_edges.ensures.share,
      c.requires.room (edge_numbers c.args.grid.now),
      same_allot c.args.share.now.party c.put_edges.new.share.party c.put_edges.ensures.party,
    ))

pub raise-requires-clause-load : goal.raise-requires-clause-load
raise-requires-clause-load c =
    rw (c.vertices-wirelength.ensures, c.size.ensures, c.pieces.ensures.listed)
    (omega (
      arith,
      last_rises c.args.grid.now c.args.width c.args.tree.now (loads_of c.args.kept.now) (loads_of c.put_edges.new.kept)
          c.pieces.ensures.rising c.requires.pieces c.put_edges.ensures.seen,
      c.requires.room (edge_numbers c.args.grid.now),
      (c.requires.close (edge_numbers c.args.grid.now)).most,
      c.requires.share.whole,
    ))

pub returns-clause-seen : goal.returns-clause-seen
returns-clause-seen c r =
    let kept = c.put_edges.new.kept in
    rw (c.raise.ensures.seen, c.vertices-wirelength.ensures, c.size.ensures, c.pieces.ensures.listed)
    (tree_load-added c.args.grid.now c.args.width c.args.tree.now (loads_of c.args.kept.now) (loads_of kept) r c.requires.pieces
    (kept_long kept (c.put_edges.ensures.setting.grid ∙ c.requires.grid)) c.put_edges.ensures.seen)

pub returns-clause-share : goal.returns-clause-share
returns-clause-share c r =
    let now = c.put_edges.ensures in
    rw (c.raise.ensures.event, c.vertices-wirelength.ensures, c.size.ensures, c.pieces.ensures.listed)
    (tree_load-added c.args.grid.now c.args.width c.args.tree.now c.args.share.now.party.shares
    c.put_edges.new.share.party.shares r c.requires.pieces
    (share_wide c.args.grid.now now.valid (now.table ∙ c.requires.table) c.requires.words) now.share)
