use Rattle.std.proofs.Common.{◌∙◌}
use Rattle.price_workers.proofs.Common.{loads_of}
use Rattle.price_workers.proofs.Taken.{set_taken}
use Rattle.price_workers.proofs.TurnFacts.{kept_long}
use Rattle.price_workers.proofs.loads.forget_tree.Goals as goal

pub lower-requires-clause-load : goal.lower-requires-clause-load
lower-requires-clause-load c =
    rw (c.vertices-wirelength.ensures, c.size.ensures, c.pieces.ensures.listed)
    (set_taken c.args.grid.now c.args.width c.args.tree.now (loads_of c.args.kept.now) (loads_of c.forget_edges.new.kept)
    c.requires.pieces (kept_long c.args.kept.now c.requires.grid) (kept_long c.forget_edges.new.kept
    (c.forget_edges.ensures.setting.grid ∙ c.requires.grid)) c.forget_edges.ensures.seen c.requires.had).0

pub returns-clause-seen : goal.returns-clause-seen
returns-clause-seen c =
    rw (c.lower.ensures.seen, c.vertices-wirelength.ensures, c.size.ensures, c.pieces.ensures.listed)
    (set_taken c.args.grid.now c.args.width c.args.tree.now (loads_of c.args.kept.now) (loads_of c.forget_edges.new.kept)
    c.requires.pieces (kept_long c.args.kept.now c.requires.grid) (kept_long c.forget_edges.new.kept
    (c.forget_edges.ensures.setting.grid ∙ c.requires.grid)) c.forget_edges.ensures.seen c.requires.had).1
