use Rattle.std.proofs.Common.{◌∙◌, ap}
use Rattle.std.specs.Prelude.{flat_map}
use Rattle.std.proofs.lemmas.List.{take_all}
use Rattle.guide_text.specs.RouteTiles.{ends_of}
use Rattle.guide_text.proofs.EndLists.{ends_more}
use Rattle.guide_text.proofs.listed.ends_of_all.Goals as goal

pub loop-piece-preserved : goal.loop-piece-preserved
loop-piece-preserved c =
    let listed = c.pieces-piece-items.ensures.listed in
    ends_more c.args.size c.args.tree.now c.loop-piece.piece-index _ c.loop-piece.ends.items c.push.new.self.items c.push-in-loop-piece.new.self.items c.ends_of.result.0.0 c.ends_of.result.1.0
    (rw listed at c.loop-piece-test.true) c.loop-piece.invariant c.in_ok-push.ensures.items c.in_ok-push-2.ensures.items (rw listed at c.ends_of.ensures.start) (rw listed at c.ends_of.ensures.end)

pub returns : goal.returns
returns c =
    c.loop-piece.invariant ∙ ap (flat_map (ends_of c.args.size)) (take_all c.loop-piece.piece-index c.args.tree.now (rw c.pieces-piece-items.ensures.listed at c.loop-piece-test.false))
