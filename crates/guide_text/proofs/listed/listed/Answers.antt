use Rattle.std.proofs.Common.{◌∙◌, ap, sym}
use Rattle.std.proofs.lemmas.List.{append-nil, take_all}
use Rattle.guide_text.specs.RouteTiles.{route_tiles}
use Rattle.guide_text.proofs.EndLists.{tiles_more}
use Rattle.guide_text.proofs.listed.listed.Goals as goal

pub loop-terminal-init : goal.loop-terminal-init
loop-terminal-init c = c.in_ok-tiles.ensures ∙ sym (append-nil _)

pub loop-terminal-preserved : goal.loop-terminal-preserved
loop-terminal-preserved c =
    tiles_more c.args.size c.args.tree.now c.args.terminals.now c.loop-terminal.terminal-index (record { 0 = 0 }) c.loop-terminal.tiles.items c.push.new.self.items
    c.loop-terminal-test.true c.loop-terminal.invariant c.in_ok-push.ensures.items

pub returns : goal.returns
returns c = c.loop-terminal.invariant ∙ ap (route_tiles c.args.size c.args.tree.now) (take_all c.loop-terminal.terminal-index c.args.terminals.now c.loop-terminal-test.false)
