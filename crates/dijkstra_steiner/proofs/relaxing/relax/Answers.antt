use Rattle.std.proofs.Common.{◌≡◌, ◌+◌, false, refl, sym, ◌∙◌, subst, arith}
use Rattle.std.specs.Bool.{IsTrue}
use Rattle.grid_base.specs.declared.size.Size.{Size}
use Rattle.grid_base.specs.Numbers.{Connects}
use Rattle.grid_base.specs.Spots.{spot_steps}
use Rattle.grid_graph.specs.Weighed.{Weighs, IsAllowed}
use Rattle.label_search.specs.Stamped.{far}
use Rattle.label_search.proofs.Offers.{offered_from}
use Rattle.label_search.proofs.Relaxing.{OfferedBelow, spot_step, no_step, offered_more, offered_past}
use Rattle.steiner_tables.specs.Tables.{HasTree}
use Rattle.steiner_tables.proofs.Trees.{has_step}
use Rattle.dijkstra_steiner.specs.Stacks.{on_stack}
use Rattle.dijkstra_steiner.specs.MaskSearches.{mask_number}
use Rattle.dijkstra_steiner.proofs.MaskOffers.{Proceeds-trans, offered_proceeds, offered_masks, number_at, step_offered, relaxed_all}
use Rattle.dijkstra_steiner.proofs.relaxing.relax.Goals as goal
use Rattle.dijkstra_steiner.proofs.relaxing.relax.Goals.{in-Some+then-allows, in-Some+else-allows, in_default}

pub spot-requires-then-allows-clause-at : goal.spot-requires-then-allows-clause-at
spot-requires-then-allows-clause-at g c =
    let flat = c.args.rest.now.stack.flat in
    let table : c.spot_steps.result ≡ spot_steps flat c.args.at.vertex.0 =
    subst (λ (s : Size). c.spot_steps.result ≡ spot_steps s c.args.at.vertex.0) c.flat.ensures c.spot_steps.ensures in
    (spot_step flat c.args.at c.loop-step.step-index c.spot_steps.result c.in-Some.to c.in-Some.by c.requires.at table
    c.loop-step-test.true c.in-Some.is).spot

pub loop-step-preserved : goal.loop-step-preserved
loop-step-preserved g c =
    let stack = c.args.rest.now.stack in
    let flat = stack.flat in
    let pieces = g.W.Weights.pieces c.args.weights.now in
    let terminals = g.F.Family.terminals c.args.rest.now.family.now in
    let low = g.F.Family.low c.args.rest.now.family.now in
    let from = c.args.at.vertex.0 in
    let mask = c.args.mask in
    let number = c.number-number.result in
    let before = c.loop-step.invariant in
    let i = c.loop-step.step-index in
    let initial = c.args.row.now in
    let old = c.loop-step.row in
    let table : c.spot_steps.result ≡ spot_steps flat from =
    subst (λ (s : Size). c.spot_steps.result ≡ spot_steps s from) c.flat.ensures c.spot_steps.ensures in
    elim c.match-step.branch [
      | in-Some+then-allows w ↦
          let after = w.offer.ensures in
          let new = w.offer.new.row in
          let next = w.in-Some.to.vertex in
          let by = w.weight.result in
          let to = w.spot-then-allows.result.vertex.0 in
          let at_to : to ≡ on_stack flat mask next.0 = w.spot-then-allows.ensures.vertex in
          let step = spot_step flat c.args.at i c.spot_steps.result w.in-Some.to w.in-Some.by c.requires.at table
          c.loop-step-test.true w.in-Some.is in
          let allowed : IsAllowed pieces w.in-Some.by = w.if-allows.ensures.0 refl in
          let weighs : Weighs pieces w.in-Some.by by =
          subst (Weighs pieces w.in-Some.by) (sym (w.weight.ensures.value allowed.0 allowed.1)) allowed.1 in
          rw w.row-is (record {
            search = after.search;
            masks = λ root is.
                let here = number_at flat initial number mask from c.spot.result.vertex.0 c.number-number.ensures.number
                c.spot.ensures.vertex in
                let tree : HasTree flat pieces terminals mask from number =
                subst (HasTree flat pieces terminals mask from) (sym here)
                (is.trees mask from c.requires.some c.requires.mask c.requires.at.vertex c.requires.here) in
                offered_masks stack.size flat pieces terminals low c.args.last root mask next.0 to (number + by) old new stack.is
                (before.proceeds.found.size ∙ c.requires.size) c.requires.some c.requires.mask c.requires.last step.spot.vertex
                at_to after.taken after.search
                (has_step flat pieces terminals mask from next.0 number by w.in-Some.by tree weighs step.connects)
                (before.masks root is);
            proceeds = Proceeds-trans initial old new before.proceeds (offered_proceeds old new to (number + by) after.taken);
            from = offered_from old new (on_stack flat mask from) to number by after.taken before.from;
            offered = offered_more flat pieces (λ _. 0) far (mask_number flat old mask) (mask_number flat new mask) from number i next
                w.in-Some.by before.offered (λ u. after.taken.falls (on_stack flat mask u)) step.step
                (λ k weighs_k. step_offered flat new mask number by k next.0 to at_to (w.weight.ensures.value k weighs_k) after.free);
          })
      | in-Some+else-allows w ↦
          let step = spot_step flat c.args.at i c.spot_steps.result w.in-Some.to w.in-Some.by c.requires.at table
          c.loop-step-test.true w.in-Some.is in
          rw w.row-is (record {
            search = before.search;
            masks = before.masks;
            proceeds = before.proceeds;
            from = before.from;
            offered = offered_more flat pieces (λ _. 0) far (mask_number flat old mask) (mask_number flat old mask) from number i
                w.in-Some.to.vertex w.in-Some.by before.offered (λ u. omega arith) step.step
                (λ k weighs. let yes : IsTrue false = w.if-allows.ensures.1 (k, weighs) in cc);
          })
      | in_default w ↦
          rw w.row-is (record {
            search = before.search;
            masks = before.masks;
            proceeds = before.proceeds;
            from = before.from;
            offered = offered_past flat pieces (λ _. 0) far (mask_number flat old mask) from number i before.offered
                (no_step flat from i c.spot_steps.result table w.in_default.is);
          })
    ]

pub returns-clause-relaxed : goal.returns-clause-relaxed
returns-clause-relaxed g c = λ p k u weighs connects.
    let flat = c.args.rest.now.stack.flat in
    let pieces = g.W.Weights.pieces c.args.weights.now in
    let row = c.loop-step.row in
    let mask = c.args.mask in
    let from = c.args.at.vertex.0 in
    let number = c.number-number.result in
    let here = number_at flat c.args.row.now number mask from c.spot.result.vertex.0 c.number-number.ensures.number
    c.spot.ensures.vertex in
    let all : c.loop-step.step-index ≡ 6 = omega (arith, c.loop-step-test.false, c.loop-step.auto.step-index-end) in
    let relaxed = relaxed_all flat pieces row mask from number c.loop-step.invariant.from
    (subst (OfferedBelow flat pieces (λ _. 0) far (mask_number flat row mask) from number) all c.loop-step.invariant.offered)
    p k u weighs (subst (λ (s : Size). Connects s p from u) (sym c.requires.flat) connects) in
    omega (arith, here, relaxed)
