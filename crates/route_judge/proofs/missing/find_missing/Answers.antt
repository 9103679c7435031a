use Rattle.std.proofs.Common.{◌≡◌, ◌<◌, ◌≤◌, List, [], ◌∷◌, length, get_or, true, None, Some, refl, ◌∙◌, ap, subst, inl, inr, arith}
use Rattle.std.specs.Prelude.{flat_map}
use Rattle.std.proofs.lemmas.List.{take_all}
use Rattle.std.proofs.lemmas.List.Concat.{flat_map_single}
use Rattle.std.proofs.lemmas.Option.{get_or_from_slice_get}
use Rattle.grid_graph.specs.declared.net_spec.NetSpec.{NetSpec}
use Rattle.grid_graph.proofs.Grounds.{at_place}
use Rattle.route_judge.specs.declared.reason.Reason.TheVariants.{MissingNet}
use Rattle.route_judge.specs.Objections.{Objection, missing_net, Finds}
use Rattle.route_judge.proofs.Found.{none_more, found_at}
use Rattle.route_judge.proofs.missing.find_missing.Goals as goal

pub returns-then-lacks_block : goal.returns-then-lacks_block
returns-then-lacks_block c = record {
  stops = λ blocks filled.
      let d = c.args.design.now in
      let k = c.loop-place.place in
      let one : NetSpec → List Objection = λ n. missing_net blocks n ∷ [] in
      let below : k < length d.nets = omega (arith, c.requires, c.loop-place-test.true) in
      let found = at_place d.nets k below in
      let is : get_or c.list.result.now k c.index-list-place.result ≡ found.0 =
      ap (λ xs. get_or xs k c.index-list-place.result) c.list.ensures.items ∙ get_or_from_slice_get d.nets k found.0 c.index-list-place.result found.1 in
      let applies = (c.lacks_block.ensures blocks found.0 filled found.1).0 c.if-lacks_block.true in
      subst (λ xs. Finds d xs (Some (MissingNet (get_or c.list.result.now k c.index-list-place.result).id))) (flat_map_single (missing_net blocks) d.nets)
      (found_at d one d.nets k found.0 (MissingNet (get_or c.list.result.now k c.index-list-place.result).id) below (get_or_from_slice_get d.nets k found.0 found.0 found.1)
      (c.loop-place.invariant blocks filled) (inl (applies, ap (λ (n : NetSpec). Some (MissingNet n.id)) is)));
}

pub loop-place-preserved : goal.loop-place-preserved
loop-place-preserved c blocks filled =
    let d = c.args.design.now in
    let k = c.loop-place.place in
    let below : k < length d.nets = omega (arith, c.requires, c.loop-place-test.true) in
    let found = at_place d.nets k below in
    none_more d (λ n. missing_net blocks n ∷ []) d.nets k found.0 below (get_or_from_slice_get d.nets k found.0 found.0 found.1) (c.loop-place.invariant blocks filled)
    (inr (λ applies. let told : c.lacks_block.result ≡ true = (c.lacks_block.ensures blocks found.0 filled found.1).1 applies in cc (told, c.if-lacks_block.false), refl))

pub returns : goal.returns
returns c = record {
  stops = λ blocks filled.
      let d = c.args.design.now in
      let one : NetSpec → List Objection = λ n. missing_net blocks n ∷ [] in
      let all : length d.nets ≤ c.loop-place.place = omega (arith, c.requires, c.loop-place-test.false) in
      subst (λ xs. Finds d xs None) (flat_map_single (missing_net blocks) d.nets)
      (subst (λ ns. Finds d (flat_map one ns) None) (take_all c.loop-place.place d.nets all) (c.loop-place.invariant blocks filled));
}
