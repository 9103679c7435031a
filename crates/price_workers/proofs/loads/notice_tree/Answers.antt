use Rattle.std.proofs.Common.{◌∙◌, arith}
use Rattle.price_workers.proofs.Common.{edge_numbers, loads_of, tree_load-added}
use Rattle.price_workers.proofs.Taken.{last_rises}
use Rattle.price_workers.proofs.TurnFacts.{kept_long}
use Rattle.price_workers.proofs.loads.notice_tree.Goals as goal

pub lift-requires-clause-load : goal.lift-requires-clause-load
lift-requires-clause-load c =
    rw (c.vertices-wirelength.ensures, c.size.ensures, c.pieces.ensures.listed)
    (omega (
      arith,
      last_rises c.args.grid.now c.args.width c.args.tree.now (loads_of c.args.kept.now) (loads_of c.notice_edges.new.kept)
          c.pieces.ensures.rising c.requires.pieces c.notice_edges.ensures.seen,
      c.requires.room (edge_numbers c.args.grid.now),
    ))

pub returns-clause-seen : goal.returns-clause-seen
returns-clause-seen c r =
    let kept = c.notice_edges.new.kept in
    rw (c.lift.ensures.seen, c.vertices-wirelength.ensures, c.size.ensures, c.pieces.ensures.listed)
    (tree_load-added c.args.grid.now c.args.width c.args.tree.now (loads_of c.args.kept.now) (loads_of kept) r c.requires.pieces
    (kept_long kept (c.notice_edges.ensures.setting.grid ∙ c.requires.grid)) c.notice_edges.ensures.seen)
