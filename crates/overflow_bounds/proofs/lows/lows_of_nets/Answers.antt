use Rattle.std.proofs.Common.{List, None, length, replicate, sym, ◌∙◌, ap, subst}
use Rattle.std.specs.List.{AllZip}
use Rattle.grid_graph.specs.declared.net_spec.NetSpec.{NetSpec}
use Rattle.dual_bound.specs.DesignBounds.{IsAtMostEachRoute}
use Rattle.overflow_bounds.proofs.NetLows.{none_low}
use Rattle.overflow_bounds.proofs.lows.lows_of_nets.Goals as goal
use Rattle.overflow_bounds.proofs.lows.lows_of_nets.Goals.{In_ok-lows}

-- the list begins with a 0 for each net
begun : (c : In_ok-lows) → AllZip (IsAtMostEachRoute c.args.design.now.grid c.args.prices.now None) c.args.design.now.nets c.in_ok-lows.lows.items
begun c =
    let d = c.args.design.now in
    subst (AllZip (IsAtMostEachRoute d.grid c.args.prices.now None) d.nets)
    (sym (c.in_ok-lows.ensures.items_if_clones_equal (λ y same. same) ∙ ap (λ (ns : List NetSpec). replicate (length ns) 0) c.list-count.ensures.items))
    (none_low d.grid c.args.prices.now d.nets)

pub returns-in_default : goal.returns-in_default
returns-in_default c = begun (goal.at.returns-in_default c).In_ok-lows

pub write_lows-requires-clause-lows : goal.write_lows-requires-clause-lows
write_lows-requires-clause-lows c =
    let d = c.args.design.now in
    subst (λ prices. AllZip (IsAtMostEachRoute d.grid prices None) d.nets c.as_mut_slice.result.now) (sym c.in_ok-reused.ensures.prices)
    (subst (AllZip (IsAtMostEachRoute d.grid c.args.prices.now None) d.nets) (sym c.as_mut_slice.ensures.value) (begun (goal.at.write_lows-requires-clause-lows c).In_ok-lows))
