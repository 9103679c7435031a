use Rattle.std.proofs.Common.{[], ◌∷◌, take, get_or}
use Rattle.std.proofs.lemmas.List.{take_more}
use Rattle.negotiation.specs.Searches.{IsFoundFor}
use Rattle.negotiation.proofs.Found.{AllZip-behind}
use Rattle.negotiation.proofs.searching.search_in_turn.Goals as goal

pub loop-net-preserved : goal.loop-net-preserved
loop-net-preserved c =
    let nets = c.args.nets.now in
    let i = c.loop-net.net-index in
    rw (take_more nets i 0 c.loop-net-test.true, c.in_ok-push.ensures.items)
    (AllZip-behind (IsFoundFor c.args.sight.design.now) (take i nets) (get_or nets i 0 ∷ []) c.loop-net.found.items (c.in_ok-search.field-0 ∷ [])
    c.loop-net.invariant (c.in_ok-search.ensures.found, tt))
