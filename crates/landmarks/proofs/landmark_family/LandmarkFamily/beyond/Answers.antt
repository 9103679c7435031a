use Rattle.std.proofs.Common.{length, arith}
use Rattle.steiner_exact.proofs.BoxSteps.{few_masks_all}
use Rattle.landmarks.proofs.SpanSteps.{widest-none, widest_step}
use Rattle.landmarks.proofs.landmark_family.LandmarkFamily.beyond.Goals as goal

pub loop-landmark-init : goal.loop-landmark-init
loop-landmark-init g c =
    let x = c.args.self.now in widest-none x.landmarks.now.numbers.items x.terminals.now c.args.mask c.args.v.0

pub loop-landmark-preserved : goal.loop-landmark-preserved
loop-landmark-preserved g c =
    let x = c.args.self.now in
    widest_step x.landmarks.now.numbers.items x.terminals.now x.spans c.args.mask c.args.v.0 c.loop-landmark.landmark
    c.loop-landmark.widest c.number.result c.width_with.result c.max-widest.result _ x.spanned c.requires.mask
    c.loop-landmark-test.true c.loop-landmark.invariant c.number.ensures c.width_with.ensures c.max-widest.ensures

pub bounds-self-first : goal.bounds-self-first
bounds-self-first g c =
    let x = c.args.self.now in
    omega (arith, few_masks_all (length x.terminals.now) x.few, c.requires.mask, c.loop-landmark-test.true)
