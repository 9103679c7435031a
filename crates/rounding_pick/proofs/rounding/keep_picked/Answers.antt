use Rattle.std.proofs.Common.{◌≡◌, ◌<◌, ◌+◌, ◌-◌, ◌∷◌, suc, ℕ, [], length, slice_index_or, sym, ◌∙◌, ap, subst, arith}
use Rattle.std.proofs.lemmas.List.{get_or_default}
use Rattle.std.proofs.lemmas.Slice.Zip.{AllZip-long}
use Rattle.tree_set.specs.Routings.{IsRoute}
use Rattle.rounding_pick.specs.Picks.{pick}
use Rattle.rounding_pick.proofs.Keeping.{IsPickedUpTo, IsPickedUpTo-stays, IsPickedUpTo-exchanged, IsPickedUpTo-ends}
use Rattle.rounding_pick.proofs.rounding.keep_picked.Goals as goal
use Rattle.rounding_pick.proofs.rounding.keep_picked.Goals.{then-phase-gt0, else-phase-gt0}

pub exchange-requires : goal.exchange-requires
exchange-requires c =
    let d = c.args.design.now in
    let inv = c.loop-position.invariant in
    let phase = c.pick-phase.result - 1 in
    let within : c.loop-position.position < length d.nets = omega (arith, c.loop-position-test.true, ap length c.list-position-end.ensures.items) in
    let among : phase < length c.loop-position.others = omega (arith, c.if-phase-gt0.true, c.pick-phase.ensures.below, c.loop-position.auto.others) in
    record {
      position = (
        omega (arith, within, AllZip-long (IsRoute d.grid) d.nets c.loop-position.first inv.routing),
        omega (arith, within, AllZip-long (IsRoute d.grid) d.nets _ (inv.routings phase c.index-others-phase.result among)),
      );
    }

pub loop-position-preserved : goal.loop-position-preserved
loop-position-preserved c =
    let d = c.args.design.now in
    let first = c.args.first.now in
    let others = c.args.others.now in
    let position = c.loop-position.position in
    let left = c.loop-position.others in
    let inv = c.loop-position.invariant in
    let within : position < length d.nets = omega (arith, c.loop-position-test.true, ap length c.list-position-end.ensures.items) in
    let many : length (first ∷ others) ≡ length others + 1 = omega arith in
    let picked : pick c.args.seed position (length (first ∷ others)) ≡ c.pick-phase.result = ap (pick c.args.seed position) many ∙ sym c.pick-phase.ensures.word in
    elim c.if-phase-gt0.branch [
      | then-phase-gt0 w ↦
          let phase = c.pick-phase.result - 1 in
          let among : phase < length others = omega (arith, w.if-phase-gt0.true, c.pick-phase.ensures.below) in
          let in_left : phase < length left = omega (arith, among, c.loop-position.auto.others) in
          let next : c.pick-phase.result ≡ suc phase = omega (arith, w.if-phase-gt0.true) in
          rw (w.first-is, w.others-is, w.exchange.ensures.own, w.exchange.ensures.other)
          (IsPickedUpTo-exchanged d c.args.seed first others position phase c.loop-position.first (slice_index_or left phase w.index-others-phase.result) left within among
          (get_or_default left phase [] w.index-others-phase.result in_left) (picked ∙ next) inv)
      | else-phase-gt0 w ↦
          let none : c.pick-phase.result ≡ 0 = omega (arith, w.if-phase-gt0.false) in
          rw (w.first-is, w.others-is) (IsPickedUpTo-stays d c.args.seed first others position c.loop-position.first left (picked ∙ none) inv)
    ]

pub returns-clause-chosen : goal.returns-clause-chosen
returns-clause-chosen c =
    let d = c.args.design.now in
    let done : c.loop-position.position ≡ length d.nets =
    omega (arith, c.loop-position-test.false, c.loop-position.auto.position-end, ap length c.list-position-end.ensures.items) in
    IsPickedUpTo-ends d c.args.seed c.args.first.now c.args.others.now c.loop-position.first c.loop-position.others
    (subst (λ (k : ℕ). IsPickedUpTo d c.args.seed c.args.first.now c.args.others.now k c.loop-position.first c.loop-position.others) done c.loop-position.invariant)
