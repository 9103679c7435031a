use Rattle.std.proofs.Common.{◌≡◌, ◌<◌, List, get_or, length, sym, ◌∙◌, ap, subst, arith}
use Rattle.std.proofs.lemmas.Option.{slice_get-get_or}
use Rattle.grid_base.specs.declared.spot.Spot.{Spot}
use Rattle.grid_base.specs.declared.size.Size.{Size}
use Rattle.grid_base.specs.declared.vertex.Vertex.{Vertex}
use Rattle.grid_base.specs.Lists.{At}
use Rattle.grid_base.specs.Spots.{IsSpot, spot_at}
use Rattle.grid_base.proofs.Spots.{spot_at-is}
use Rattle.label_search.specs.Runs.{IsSearch}
use Rattle.label_search.specs.Stamped.{max_key}
use Rattle.steiner_tables.specs.Masks.{single}
use Rattle.dijkstra_steiner.specs.Stacks.{on_stack, rest_on}
use Rattle.dijkstra_steiner.proofs.Starting.{none_seeded, seed_number, seeded_more, seeded_masks, seeded_started, seed_room}
use Rattle.dijkstra_steiner.proofs.search.start.Goals as goal

none : Vertex
none = record { 0 = 0 }

pub loop-place-init : goal.loop-place-init
loop-place-init g c = record {
  size = c.requires.size;
  search = record {
    keys = λ v key waits. absurd (c.requires.idle v key waits);
    numbered = λ v key waits. absurd (c.requires.idle v key waits);
    within = λ v has. absurd (omega (arith, has, c.requires.none v));
  };
  seeded = none_seeded c.args.rest.now.stack.flat c.args.terminals.now c.args.row.now c.requires.none;
}

pub spot-to-requires-clause-room : goal.spot-to-requires-clause-room
spot-to-requires-clause-room g c =
    omega (arith, c.single_of.ensures, seed_room c.args.terminals.now c.loop-place.place c.requires.few c.loop-place-test.true)

pub spot-to-requires-clause-at : goal.spot-to-requires-clause-at
unfolding none
spot-to-requires-clause-at g c =
    let flat = c.args.rest.now.stack.flat in
    let terminals = c.args.terminals.now in
    let p = c.loop-place.place in
    let t = get_or terminals p none in
    let inside : p < length terminals = omega (arith, c.loop-place-test.true, c.requires.two) in
    let is : c.of-at.result ≡ spot_at flat t.0 = c.of-at.ensures ∙ ap (λ (x : Size). spot_at x t.0) c.flat.ensures in
    subst (IsSpot flat) (sym is) (spot_at-is flat t.0 (c.requires.vertices p none inside))

pub loop-place-preserved : goal.loop-place-preserved
unfolding none
loop-place-preserved g c =
    let rest = c.args.rest.now in
    let terminals = c.args.terminals.now in
    let p = c.loop-place.place in
    let old = c.loop-place.row in
    let new = c.offer.new.row in
    let before = c.loop-place.invariant in
    let after = c.offer.ensures in
    let t = get_or terminals p none in
    let inside : p < length terminals = omega (arith, c.loop-place-test.true, c.requires.two) in
    let at : At terminals p t = slice_get-get_or terminals p none inside in
    let here : c.of-at.result.vertex.0 ≡ t.0 = ap (λ (x : Spot). x.vertex.0) c.of-at.ensures in
    let to : c.spot-to.result.vertex.0 ≡ on_stack rest.stack.flat (single p) t.0 =
    seed_number rest.stack.flat c.single_of.result p c.of-at.result.vertex.0 t.0 c.spot-to.result.vertex.0 c.spot-to.ensures.vertex
    c.single_of.ensures here in
    record {
      size = after.taken.found.size ∙ before.size;
      search = subst (λ (ts : List Vertex). IsSearch (rest_on rest.stack.size ts (g.F.Family.low rest.family.now)) max_key new)
          c.requires.terminals after.search;
      seeded = seeded_more rest.stack.flat terminals p c.spot-to.result.vertex.0 t old new at c.loop-place-test.true to after.taken
          (after.free (omega arith)) before.seeded;
    }

pub returns-clause-masks : goal.returns-clause-masks
returns-clause-masks g c = λ pieces root.
    let stack = c.args.rest.now.stack in
    let begun = c.loop-place.invariant in
    seeded_masks stack.size stack.flat pieces c.args.terminals.now
    (g.F.Family.low c.args.rest.now.family.now) c.loop-place.place root c.loop-place.row stack.is begun.size c.requires.few
    c.requires.vertices begun.search begun.seeded

pub returns-clause-started : goal.returns-clause-started
returns-clause-started g c =
    seeded_started c.args.rest.now.stack.flat c.args.terminals.now c.loop-place.place c.loop-place.row
    (omega (arith, c.loop-place-test.false)) c.loop-place.invariant.seeded
