use Rattle.std.proofs.Common.{arith}
use Rattle.grid_base.proofs.Pieces.{end_vertex}
use Rattle.shortest_paths.specs.LabelWords.{label_of}
use Rattle.label_search.specs.Paths.{IsStepBack}
use Rattle.steiner_exact.proofs.TreesRead.{leads_nowhere, leads_more}
use Rattle.steiner_exact.proofs.reading.follow.Goals as goal

pub loop-before-smaller : goal.loop-before-smaller
loop-before-smaller g c =
    let back : IsStepBack (g.W.Weights.size c.args.weights.now) (g.W.Weights.pieces c.args.weights.now) (label_of c.args.labels.now c.args.mask) c.loop-before.here.0 c.in-Some.before.0 c.in-Some.by = c.in-Some.ensures.some in
    omega (arith, back.less, c.requires.positive c.in-Some.by back.weight back.step.weighs)

pub loop-before-init : goal.loop-before-init
loop-before-init g c = record {
  vertex = c.requires.vertex;
  kept = c.requires.kept;
  leads = leads_nowhere (g.W.Weights.size c.args.weights.now) (g.W.Weights.pieces c.args.weights.now) c.args.mask (label_of c.args.labels.now c.args.mask) c.args.v.0 c.args.tree.now.items;
}

pub loop-before-preserved : goal.loop-before-preserved
loop-before-preserved g c =
    let s = g.W.Weights.size c.args.weights.now in
    let pieces = g.W.Weights.pieces c.args.weights.now in
    let number = label_of c.args.labels.now c.args.mask in
    let here = c.loop-before.here.0 in
    let back : IsStepBack s pieces number here c.in-Some.before.0 c.in-Some.by = c.in-Some.ensures.some in
    record {
      vertex = end_vertex s c.in-Some.by here c.in-Some.before.0 back.step.connects;
      kept = omega (arith, back.less, c.loop-before.invariant.kept);
      leads = leads_more s pieces c.args.mask number c.args.v.0 here c.in-Some.before.0 c.in-Some.by c.args.tree.now.items c.loop-before.tree.items c.push.new.self.items c.in_ok-push.ensures.items back c.loop-before.invariant.leads;
    }
