use Rattle.std.proofs.Common.{◌≡◌, ◌+◌, ℕ, ◌++◌, ◌∷◌, [], List, take, sym, ◌∙◌, ap, subst}
use Rattle.std.proofs.lemmas.List.{map_more, take-map}
use Rattle.std.proofs.lemmas.Option.{slice_get-get_or, slice_get-map}
use Rattle.std.specs.Option.{option_map}
use Rattle.grid_base.specs.Lists.{At}
use Rattle.grid_graph.specs.declared.net_spec.NetSpec.{NetSpec}
use Rattle.eco_route.specs.NetIndices.{ids_of}
use Rattle.eco_route.proofs.Indices.{not_before}
use Rattle.eco_route.proofs.net_index.NetIndex.of.Goals as goal

pub loop-net-preserved : goal.loop-net-preserved
loop-net-preserved c =
    let nets = c.args.nets.now in
    let i = c.loop-net.net-index in
    let net = c.net-item.result in
    let read : NetSpec → ℕ = λ n. n.id in
    let stands : At nets i net = subst (λ (n : NetSpec). At nets i n) (sym c.net-item.is) (slice_get-get_or nets i net c.loop-net-test.true) in
    let named : At (ids_of nets) i net.id = slice_get-map read nets i ∙ ap (option_map read) stands in
    let more : ids_of (take (i + 1) nets) ≡ ids_of (take i nets) ++ net.id ∷ [] =
    map_more read nets i net c.loop-net-test.true ∙ ap (λ (n : NetSpec). ids_of (take i nets) ++ read n ∷ []) (sym c.net-item.is) in
    rw more (c.in_ok-push.ensures.pushed (ids_of (take i nets)) c.loop-net.invariant
    (λ k at. not_before (ids_of nets) i net.id c.requires named k (subst (λ (ids : List ℕ). At ids k net.id) (sym (take-map read i nets)) at)))
