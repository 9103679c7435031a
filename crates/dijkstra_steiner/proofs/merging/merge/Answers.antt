use Rattle.std.proofs.Common.{◌≡◌, ◌≤◌, ◌+◌, ◌-◌, false, refl, sym, ◌∙◌, subst, arith}
use Rattle.std.specs.Bool.{IsTrue}
use Rattle.label_search.specs.Stamped.{far}
use Rattle.steiner_tables.specs.Masks.{AreParts}
use Rattle.steiner_tables.specs.Tables.{HasTree}
use Rattle.steiner_tables.proofs.Trees.{has_union}
use Rattle.dijkstra_steiner.specs.Stacks.{on_stack}
use Rattle.dijkstra_steiner.specs.MaskSearches.{mask_number}
use Rattle.dijkstra_steiner.proofs.MaskOffers.{Proceeds-refl, Proceeds-trans, offered_proceeds, offered_masks, number_at}
use Rattle.dijkstra_steiner.proofs.MaskOffers.{merged_none, merged_more, sum_offered}
use Rattle.dijkstra_steiner.proofs.merging.merge.Goals as goal
use Rattle.dijkstra_steiner.proofs.merging.merge.Goals.{then-is_part+then-beside-lt-FAR, then-is_part+else-beside-lt-FAR}
use Rattle.dijkstra_steiner.proofs.merging.merge.Goals.{else-is_part}

pub loop-both-init : goal.loop-both-init
loop-both-init g c = record {
  search = c.requires.search;
  masks = λ pieces root is. is;
  proceeds = Proceeds-refl c.args.row.now;
  merged = merged_none c.args.rest.now.stack.flat c.args.row.now c.number-number.result c.args.mask c.args.at.vertex.0;
}

pub loop-both-preserved : goal.loop-both-preserved
loop-both-preserved g c =
    let stack = c.args.rest.now.stack in
    let flat = stack.flat in
    let terminals = g.F.Family.terminals c.args.rest.now.family.now in
    let low = g.F.Family.low c.args.rest.now.family.now in
    let at = c.args.at.vertex.0 in
    let mask = c.args.mask in
    let number = c.number-number.result in
    let before = c.loop-both.invariant in
    let both = c.loop-both.both in
    let other = both - mask in
    let initial = c.args.row.now in
    let old = c.loop-both.row in
    elim c.if-is_part.branch [
      | then-is_part+then-beside-lt-FAR w ↦
          let after = w.offer.ensures in
          let new = w.offer.new.row in
          let to = w.spot-then-beside-lt-FAR.result.vertex.0 in
          let at_to : to ≡ on_stack flat both at = w.spot-then-beside-lt-FAR.ensures.vertex in
          let beside = w.number-beside.result in
          let parts : AreParts mask other both = w.if-is_part.ensures.0 refl in
          let here = number_at flat initial number mask at c.spot.result.vertex.0 c.number-number.ensures.number c.spot.ensures.vertex in
          let there = number_at flat old beside other at w.spot-then-is_part.result.vertex.0 w.number-beside.ensures.number
          w.spot-then-is_part.ensures.vertex in
          let on = offered_proceeds old new to (number + beside) after.taken in
          rw w.row-is (record {
            search = after.search;
            masks = λ pieces root is.
                let one : HasTree flat pieces terminals mask at number = subst (HasTree flat pieces terminals mask at) (sym here)
                (is.trees mask at c.requires.some c.requires.mask c.requires.at.vertex c.requires.here) in
                let two : HasTree flat pieces terminals other at beside =
                subst (HasTree flat pieces terminals other at) (sym there)
                ((before.masks pieces root is).trees other at parts.others (omega (arith, c.loop-both-test.true))
                c.requires.at.vertex (omega (arith, there, w.if-beside-lt-FAR.true))) in
                offered_masks stack.size flat pieces terminals low c.args.last root both at to (number + beside) old new stack.is
                (before.proceeds.found.size ∙ c.requires.size) (omega (arith, c.loop-both.auto.both))
                (omega (arith, c.loop-both-test.true)) c.requires.last c.requires.at.vertex at_to after.taken after.search
                (has_union flat pieces terminals mask other both at number beside parts one two) (before.masks pieces root is);
            proceeds = Proceeds-trans initial old new before.proceeds on;
            merged = merged_more flat old new number mask at both on before.merged
                (λ is still. sum_offered flat old new number other beside both at to on there at_to after.free still);
          })
      | then-is_part+else-beside-lt-FAR w ↦
          let there = number_at flat old w.number-beside.result other at w.spot-then-is_part.result.vertex.0
          w.number-beside.ensures.number w.spot-then-is_part.ensures.vertex in
          let limit : mask_number flat old both at ≤ far = old.parts.limits _ in
          rw w.row-is (record {
            search = before.search;
            masks = before.masks;
            proceeds = before.proceeds;
            merged = merged_more flat old old number mask at both (Proceeds-refl old) before.merged
                (λ is still. omega (arith, there, limit, w.if-beside-lt-FAR.false));
          })
      | else-is_part w ↦
          rw w.row-is (record {
            search = before.search;
            masks = before.masks;
            proceeds = before.proceeds;
            merged = merged_more flat old old number mask at both (Proceeds-refl old) before.merged
                (λ is still. let yes : IsTrue false = w.if-is_part.ensures.1 is in cc);
          })
    ]

pub returns-clause-merged : goal.returns-clause-merged
returns-clause-merged g c = λ other both parts within still.
    let here = number_at c.args.rest.now.stack.flat c.args.row.now c.number-number.result c.args.mask c.args.at.vertex.0
    c.spot.result.vertex.0 c.number-number.ensures.number c.spot.ensures.vertex in
    omega (
      arith,
      here,
      c.loop-both.invariant.merged other both parts (omega (arith, within, c.loop-both-test.false)) still,
    )
