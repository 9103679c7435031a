use Rattle.std.proofs.Common.{◌∙◌}
use Rattle.route_text.specs.Pieces.{via_text}
use Rattle.gr_desk.proofs.Pens.{puts-more, puts-whole}
use Rattle.route_text.proofs.Texts.{vias-by_piece}
use Rattle.route_text.proofs.net.put_vias.Goals as goal

pub loop-piece-preserved : goal.loop-piece-preserved
loop-piece-preserved g c =
    let listed = c.pieces-piece-items.ensures.listed in
    record {
      same_desk = c.put_via.ensures.same_desk ∙ c.loop-piece.invariant.same_desk;
      puts = puts-more (via_text c.args.grid.now) c.args.tree.now c.loop-piece.piece-index _ (rw listed at c.loop-piece-test.true) c.loop-piece.invariant.puts (rw listed at c.put_via.ensures.puts);
    }

pub returns-clause-puts : goal.returns-clause-puts
returns-clause-puts g c =
    rw (vias-by_piece c.args.grid.now c.args.tree.now)
    (puts-whole (via_text c.args.grid.now) c.args.tree.now c.loop-piece.piece-index (rw c.pieces-piece-items.ensures.listed at c.loop-piece-test.false) c.loop-piece.invariant.puts)
