use Rattle.std.proofs.Common.{◌≡◌, ◌<◌, get_or, length, sym, ◌∙◌, ap, subst, inl, ⊎_elim, arith}
use Rattle.std.proofs.lemmas.Bool.{cases_eq}
use Rattle.std.proofs.lemmas.Option.{same_Some, slice_get-get_or}
use Rattle.grid_base.specs.declared.size.Size.{Size}
use Rattle.grid_base.specs.declared.spot.Spot.{Spot}
use Rattle.grid_base.specs.declared.vertex.Vertex.{Vertex}
use Rattle.grid_base.specs.Lists.{At}
use Rattle.grid_base.specs.Numbers.{IsVertex}
use Rattle.grid_base.specs.Spots.{IsSpot, spot_at}
use Rattle.grid_base.proofs.Spots.{spot_at-is}
use Rattle.steiner_tables.specs.Masks.{single}
use Rattle.label_search.specs.Rows.{number_in, size_in}
use Rattle.label_search.specs.Runs.{IsAnswered}
use Rattle.steiner_tables.specs.Tables.{IsAlone}
use Rattle.label_search.proofs.Finding.{FindsMore-trans}
use Rattle.steiner_tables.proofs.Seeding.{seeded_offer, single_of}
use Rattle.label_search.proofs.Relaxing.{still_answered}
use Rattle.steiner_tables.proofs.seeds.seed_alone.Goals as goal
use Rattle.steiner_tables.proofs.seeds.seed_alone.Goals.{then-mask-place, else-mask-place}

none : Vertex
none = record { 0 = 0 }

pub offer-requires-clause-to : goal.offer-requires-clause-to
unfolding none
offer-requires-clause-to g c =
    let s = size_in c.loop-place.row in
    let t = get_or c.args.terminals.now c.loop-place.place none in
    let inside : c.loop-place.place < length c.args.terminals.now = omega (arith, c.loop-place-test.true, c.requires.few) in
    let vertex : IsVertex s t.0 = subst (λ (x : Size). IsVertex x t.0) (sym c.loop-place.invariant.found.size)
    (c.requires.terminals c.loop-place.place none inside) in
    let is : c.of-at.result ≡ spot_at s t.0 = c.of-at.ensures ∙ ap (λ (x : Size). spot_at x t.0) c.size.ensures in
    subst (IsSpot s) (sym is) (spot_at-is s t.0 vertex)

pub loop-place-preserved : goal.loop-place-preserved
unfolding none
loop-place-preserved g c =
    let terminals = c.args.terminals.now in
    let rest = g.B.Bound.rest c.args.bound.now in
    let limit = c.args.limit in
    let mask = c.args.mask in
    let p = c.loop-place.place in
    let old = c.loop-place.row in
    let before = c.loop-place.invariant in
    let t = get_or terminals p none in
    let inside : p < length terminals = omega (arith, c.loop-place-test.true, c.requires.few) in
    let at : At terminals p t = slice_get-get_or terminals p none inside in
    let alone_mask = single_of p (omega (arith, inside, c.requires.few)) in
    elim c.if-mask-place.branch [
      | then-mask-place w ↦
          let after = w.offer.ensures in
          let new = w.offer.new.row in
          let to = w.of-at.result.vertex in
          let here : to ≡ t = ap (λ (x : Spot). x.vertex) w.of-at.ensures in
          let vertex : IsVertex (size_in old) to.0 =
          subst (λ (x : Size). IsVertex x to.0) (sym before.found.size)
          (subst (λ (x : Vertex). IsVertex (size_in c.args.row.now) x.0) (sym here) (c.requires.terminals p none inside)) in
          let alone : IsAlone terminals mask to.0 =
          (p, subst (At terminals p) (sym here) at, w.if-mask-place.true ∙ alone_mask) in
          rw w.row-is (record {
            search = after.search;
            found = FindsMore-trans c.args.row.now.found old.found new.found before.found after.taken.found;
            seeded = λ rows seeded. seeded_offer rows terminals mask rest limit old new to.0 0 after.taken after.search vertex
                (inl alone) (before.seeded rows seeded);
            alone = λ place v low at_v is. ⊎_elim
                (λ last.
                let same : v ≡ to = same_Some v to (sym (subst (λ n. At terminals n v) last at_v)
                ∙ subst (At terminals p) (sym here) at) in
                subst (λ (x : Vertex). IsAnswered (number_in new) rest limit x.0 0) (sym same) after.answered)
                (λ earlier. still_answered (number_in old) (number_in new) rest limit v.0 0 after.taken.falls
                (before.alone place v (omega arith) at_v is))
                (cases_eq place p);
          })
      | else-mask-place w ↦
          rw w.row-is (record {
            search = before.search;
            found = before.found;
            seeded = before.seeded;
            alone = λ place v low at_v is. ⊎_elim
                (λ last. absurd (w.if-mask-place.false (sym is ∙ ap single last ∙ sym alone_mask)))
                (λ earlier. before.alone place v (omega arith) at_v is)
                (cases_eq place p);
          })
    ]
