use Rattle.std.proofs.Common.{arith, subst, sym}
use Rattle.grid_base.specs.declared.vertex.Vertex.{Vertex}
use Rattle.net_search.specs.Boxes.{IsIn, box_with}
use Rattle.net_search.specs.Sites.{site_at}
use Rattle.net_search.specs.declared.frame.Frame.{Frame}
use Rattle.net_search.specs.declared.site.Site.{Site}
use Rattle.net_search.proofs.Inside.{in_more, in_with}
use Rattle.net_search.proofs.Least.{all_more, all_end}
use Rattle.net_search.proofs.frame.frame_of.Goals as goal

pub loop-terminal-preserved : goal.loop-terminal-preserved
loop-terminal-preserved c =
    let box : Frame = c.loop-terminal.frame in
    let Before : Vertex → Type 0 = λ t. IsIn box (site_at c.args.size t.0) in
    let After : Vertex → Type 0 = λ t. IsIn c.with-frame.result (site_at c.args.size t.0) in
    let In : Site → Frame → Type 0 = λ site f. IsIn f site in
    let Holds : Site → Type 0 = λ site. IsIn (box_with box c.of.result 0) site in
    all_more Before After c.args.terminals.now c.loop-terminal.terminal-index _ c.loop-terminal-test.true
    (λ t is. subst (In (site_at c.args.size t.0)) (sym c.with-frame.ensures) (in_more box c.of.result 0 (site_at c.args.size t.0) is))
    (subst (In (site_at c.args.size _)) (sym c.with-frame.ensures) (subst Holds c.of.ensures (in_with box c.of.result 0 (omega arith) (omega arith))))
    c.loop-terminal.invariant

pub returns : goal.returns
returns c =
    let So : Vertex → Type 0 = λ t. IsIn c.loop-terminal.frame (site_at c.args.size t.0) in
    all_end So c.args.terminals.now c.loop-terminal.terminal-index (omega (arith, c.loop-terminal-test.false)) c.loop-terminal.invariant
