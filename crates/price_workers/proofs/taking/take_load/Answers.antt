use Rattle.std.proofs.Common.{◌∙◌}
use Rattle.price_workers.proofs.Taken.{set_taken}
use Rattle.price_workers.proofs.TurnFacts.{share_wide}
use Rattle.price_workers.proofs.taking.take_load.Goals as goal

pub sub-requires-clause-had : goal.sub-requires-clause-had
sub-requires-clause-had c =
    let had = c.requires.had in
    let now = c.take_edges.ensures in
    rw (c.vertices-wirelength.ensures, c.size.ensures, c.pieces.ensures.listed)
    (set_taken c.args.grid.now c.args.width c.args.tree.now c.args.share.now.party.shares c.take_edges.new.share.party.shares
    had.pieces (share_wide c.args.grid.now c.requires.share c.requires.table c.requires.words)
    (share_wide c.args.grid.now now.valid (now.table ∙ c.requires.table) c.requires.words) now.shares had.had).0

pub returns-clause-shares : goal.returns-clause-shares
returns-clause-shares c =
    let had = c.requires.had in
    let now = c.take_edges.ensures in
    rw (c.sub.ensures.event, c.vertices-wirelength.ensures, c.size.ensures, c.pieces.ensures.listed)
    (set_taken c.args.grid.now c.args.width c.args.tree.now c.args.share.now.party.shares c.take_edges.new.share.party.shares
    had.pieces (share_wide c.args.grid.now c.requires.share c.requires.table c.requires.words)
    (share_wide c.args.grid.now now.valid (now.table ∙ c.requires.table) c.requires.words) now.shares had.had).1
