use Rattle.std.proofs.Common.{◌∙◌, ℕ, All, Bool, List, None, arith, length, refl, sym, ap, subst}
use Rattle.std.proofs.lemmas.Slice.Zip.{AllZip-long}
use Rattle.grid_base.specs.declared.piece.Piece.{Piece}
use Rattle.grid_graph.specs.declared.net_spec.NetSpec.{NetSpec}
use Rattle.negotiation.specs.Rerouted.{IsRerouted}
use Rattle.route_judge.specs.Counts.{forced_count}
use Rattle.route_judge.specs.Measured.{IsMeasureOf}
use Rattle.route_judge.specs.NetSets.{IsSetOfNet}
use Rattle.tree_set.specs.Order.{IsRising}
use Rattle.reroute_cli.specs.NewRoutes.{HaveOtherSets, marked_count}
use Rattle.reroute_cli.proofs.GivenSets.{are_pieces, given_sets, joining_unwalled, rerouted_join}
use Rattle.reroute_cli.proofs.TrueRoutes.{are_new_routes}
use Rattle.reroute_cli.proofs.rerouted.new_routes_of.Goals as goal

pub measure_of-requires-clause-one_each : goal.measure_of-requires-clause-one_each
measure_of-requires-clause-one_each g c =
    let d = c.args.grounded.design in
    let given = c.requires.given in
    rw c.as_slice.ensures.value (AllZip-long (IsSetOfNet d.grid given.0) d.nets c.args.given.trees.items given.1.sets)

pub measure_of-requires-clause-pieces : goal.measure_of-requires-clause-pieces
measure_of-requires-clause-pieces g c =
    rw c.as_slice.ensures.value (are_pieces c.args.grounded.design.grid c.args.given.trees.items c.requires.given.1.no_wall)

pub reroute-requires-clause-given : goal.reroute-requires-clause-given
reroute-requires-clause-given g c κs within =
    let given = c.requires.given in
    rw c.as_slice-4.ensures.value (given_sets c.args.grounded.design given.0 c.args.given.trees.items c.args.given.has_block.items c.args.given.missing.items given.1)

pub measure_of-requires-2-clause-pieces : goal.measure_of-requires-2-clause-pieces
measure_of-requires-2-clause-pieces g c =
    let d = c.args.grounded.design in
    let r = c.in_ok-rerouted.rerouted in
    rw c.list-new.ensures (are_pieces d.grid r.trees (joining_unwalled d.grid d.nets r.trees (rerouted_join d c.args.given.trees.items c.as_slice-4.result.now c.args.settings.now r c.in_ok-rerouted.ensures)))

pub changed_nets-requires-clause-given : goal.changed_nets-requires-clause-given
changed_nets-requires-clause-given g c =
    let d = c.args.grounded.design in
    let given = c.requires.given in
    let long = AllZip-long (IsSetOfNet d.grid given.0) d.nets c.args.given.trees.items given.1.sets in
    ap (length {A = List Piece}) (c.as_slice-6.ensures.value ∙ c.in_ok-old.ensures ∙ c.as_slice-2.ensures.value) ∙ long ∙ sym c.in_ok-rerouted.ensures.long ∙ sym (ap (length {A = List Piece}) c.list-new.ensures)

pub returns-clause-new : goal.returns-clause-new
returns-clause-new g c blocks are =
    let d = c.args.grounded.design in
    let over = c.args.grounded.grounds.items in
    let s = c.args.settings.now in
    let given = c.args.given.trees.items in
    let has = c.args.given.has_block.items in
    let missing = c.args.given.missing.items in
    let r = c.in_ok-rerouted.rerouted in
    let old = c.in_ok-old.ensures ∙ c.as_slice-2.ensures.value in
    let is : IsRerouted d given missing s r = subst (λ (ks : List ℕ). IsRerouted d given ks s r) c.as_slice-4.ensures.value c.in_ok-rerouted.ensures in
    let rising : All IsRising r.trees = subst (All IsRising) c.list-new.ensures c.in_ok-changed.ensures.rising in
    let changed : HaveOtherSets has given r.trees c.in_ok-changed.changed.items =
    subst (λ (xs : List (List Piece)). HaveOtherSets has given xs c.in_ok-changed.changed.items) c.list-new.ensures
    (subst (λ (xs : List (List Piece)). HaveOtherSets has xs c.list-new.result.now c.in_ok-changed.changed.items) (c.as_slice-6.ensures.value ∙ old)
    (subst (λ (xs : List Bool). HaveOtherSets xs c.as_slice-6.result.now c.list-new.result.now c.in_ok-changed.changed.items) c.as_slice-5.ensures.value c.in_ok-changed.ensures.changed)) in
    are_new_routes d over blocks s _ given has missing are is rising (record {
      nets = ap (length {A = NetSpec}) c.list.ensures.items;
      forced = c.forced_count.ensures ∙ ap forced_count c.as_slice-7.ensures.value;
      routed = omega (arith, c.len.ensures, c.args.given.missing.ok.0);
      rerouted = (c.in_ok-changed.changed.items, changed, c.marked_count.ensures ∙ ap marked_count c.as_slice-8.ensures.value);
      rounds = refl;
      measure = subst (λ (xs : List (List Piece)). IsMeasureOf d None xs c.in_ok-measure.measure) c.list-new.ensures
          (record { of_overflow = c.in_ok-measure.ensures.overflow; of_wirelength = c.in_ok-measure.ensures.wirelength; of_peak = c.in_ok-measure.ensures.peak });
      of_given = subst (λ (xs : List (List Piece)). IsMeasureOf d None xs c.in_ok-before.before) c.as_slice.ensures.value
          (record { of_overflow = c.in_ok-before.ensures.overflow; of_wirelength = c.in_ok-before.ensures.wirelength; of_peak = c.in_ok-before.ensures.peak });
    })
