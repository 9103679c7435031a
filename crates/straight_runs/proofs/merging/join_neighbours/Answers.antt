use Rattle.std.proofs.Common.{◌≡◌, get_or, sym, subst, arith, ◌<◌, length}
use Rattle.std.proofs.lemmas.List.{get_or_default}
use Rattle.straight_runs.specs.declared.direction.Direction.TheVariants.{East}
use Rattle.straight_runs.specs.declared.run.Run.{Run}
use Rattle.straight_runs.specs.Merging.{AreMerged, Continues, IsPast}
use Rattle.straight_runs.proofs.Merges.{IsMerging, first_alone, goes_on, goes_past, all_merged}
use Rattle.straight_runs.proofs.merging.join_neighbours.Goals as goal
use Rattle.straight_runs.proofs.merging.join_neighbours.Goals.{in-Some-count_together, in-None+in_ok-push-in-None}

abbrev no_run : Run
no_run = record { direction = East; first = record { 0 = 0 }; count = 0 }

pub loop-i-init : goal.loop-i-init
loop-i-init c =
    subst (λ kept. IsMerging c.args.size c.args.sorted.now 1 kept c.in-Some.first.now) (sym c.in_ok-kept.ensures.items)
    (first_alone c.args.size c.args.sorted.now c.in-Some.first.now c.requires.runs c.in-Some.ensures.item.3.0 c.in-Some.ensures.item.1)

pub loop-i-preserved : goal.loop-i-preserved
loop-i-preserved c =
    let s = c.args.size in
    let sorted = c.args.sorted.now in
    let i = c.loop-i.i in
    let kept = c.loop-i.kept.items in
    let next = get_or sorted i no_run in
    let within : i < length sorted = c.loop-i-test.true in
    let is : next ≡ get_or sorted i next = get_or_default sorted i no_run next within in
    let run = c.requires.runs i no_run within in
    elim c.match-count_together.branch [
      | in-Some-count_together w ↦
          let on : Continues s c.loop-i.last next w.in-Some-count_together.count = w.in-Some-count_together.ensures in
          rw (w.kept-is, w.last-is) (goes_on s sorted kept i w.in-Some-count_together.count c.loop-i.last next c.requires.sorted run within is c.loop-i.invariant on)
      | in-None+in_ok-push-in-None w ↦
          let past : IsPast s c.loop-i.last next = w.in-None.ensures in
          rw (w.kept-is, w.last-is, w.in_ok-push-in-None.ensures.items) (goes_past s sorted kept i c.loop-i.last next c.requires.sorted run within is c.loop-i.invariant past)
    ]

pub returns : goal.returns
returns c =
    subst (λ runs. AreMerged c.args.size c.args.sorted.now runs) (sym c.in_ok-push.ensures.items)
    (all_merged c.args.size c.args.sorted.now c.loop-i.kept.items c.loop-i.i c.loop-i.last c.loop-i-test.false (omega (arith, c.in-Some.ensures.item.3.0)) c.loop-i.invariant)
