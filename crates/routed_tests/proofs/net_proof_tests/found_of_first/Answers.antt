use Rattle.std.proofs.Common.{List, length, refl, ap, subst, arith}
use Rattle.std.proofs.lemmas.Option.{slice_get_read}
use Rattle.grid_base.specs.Lists.{At}
use Rattle.grid_graph.specs.declared.net_spec.NetSpec.{NetSpec}
use Rattle.routed_tests.proofs.net_proof_tests.found_of_first.Goals as goal

pub found_of-requires-clause-net : goal.found_of-requires-clause-net
found_of-requires-clause-net c =
    let items = c.list.ensures.items in
    let n = c.index-list-0.result in
    let some = ap (λ (ns : List NetSpec). length ns) items in
    let stands = subst (λ (ns : List NetSpec). At ns 0 n) items
    (slice_get_read c.list.result.now (length c.list.result.now) 0 n refl (omega (arith, some, c.requires.net)) c.index-list-0.is) in
    c.args.design.now.limits.net 0 n stands

pub found_of-requires-clause-ground : goal.found_of-requires-clause-ground
found_of-requires-clause-ground c =
    let items = c.list.ensures.items in
    let n = c.index-list-0.result in
    let some = ap (λ (ns : List NetSpec). length ns) items in
    let stands = subst (λ (ns : List NetSpec). At ns 0 n) items
    (slice_get_read c.list.result.now (length c.list.result.now) 0 n refl (omega (arith, some, c.requires.net)) c.index-list-0.is) in
    c.in_ok-ground.ensures.found n stands
