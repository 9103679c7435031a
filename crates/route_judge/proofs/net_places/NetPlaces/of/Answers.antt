use Rattle.std.proofs.Common.{get_or, sym, ◌∙◌, ne_eqb}
use Rattle.std.specs.BTreeMap.{get}
use Rattle.std.specs.Cmp.{unsigned_ties}
use Rattle.std.specs.Ordering.{nat_cmp}
use Rattle.std.proofs.lemmas.Option.{slice_get-get_or}
use Rattle.grid_base.specs.Lists.{At}
use Rattle.route_judge.proofs.PlacesById.{one_more_place}
use Rattle.route_judge.proofs.net_places.NetPlaces.of.Goals as goal

pub loop-place-preserved : goal.loop-place-preserved
loop-place-preserved c =
    let nets = c.args.nets.now in
    let n = get_or nets c.loop-place.place c.index-nets-place.result in
    let at : At nets c.loop-place.place n = slice_get-get_or nets c.loop-place.place c.index-nets-place.result c.loop-place-test.true in
    let updates = c.in_ok-insert.ensures.updates in
    one_more_place nets c.loop-place.place n (get nat_cmp c.loop-place.places) (get nat_cmp c.insert.new.self) c.requires at
    updates.1 (λ q other. updates.2 q (sym (unsigned_ties n.id q) ∙ ne_eqb n.id q other)) c.loop-place.invariant
