use Rattle.std.proofs.Common.{◌≡◌, All, length, sym, ◌∙◌, ap, arith, None}
use Rattle.routing_state.specs.Totals.{totals_of}
use Rattle.routing_state.proofs.Fresh.{best_of-fresh}
use Rattle.routing_state.proofs.rerouting.Rerouting.back.Goals as goal

pub returns-clause-trees : goal.returns-clause-trees
returns-clause-trees c =
    let end = c.loop-net.self in
    let inv = c.loop-net.invariant in
    let long : length end.saved.items ≡ length end.state.trees.items = inv.of.long ∙ sym inv.of.state.sets.one_each in
    let none : All (λ set. set ≡ None) end.saved.items =
    λ k d below. inv.none k d (omega (arith, below, c.loop-net-test.false, c.loop-net.auto.net-end, c.len-net-end.ensures, c.args.self.saved.ok.0, inv.of.long, c.requires.long)) in
    sym (best_of-fresh end long none) ∙ inv.best

pub returns-clause-totals : goal.returns-clause-totals
returns-clause-totals c =
    let end = c.loop-net.self in
    let inv = c.loop-net.invariant in
    let long : length end.saved.items ≡ length end.state.trees.items = inv.of.long ∙ sym inv.of.state.sets.one_each in
    let none : All (λ set. set ≡ None) end.saved.items =
    λ k d below. inv.none k d (omega (arith, below, c.loop-net-test.false, c.loop-net.auto.net-end, c.len-net-end.ensures, c.args.self.saved.ok.0, inv.of.long, c.requires.long)) in
    inv.of.state.totals ∙ ap (totals_of c.args.design.now) (sym (best_of-fresh end long none)) ∙ sym inv.of.best ∙ inv.totals
