use Rattle.std.proofs.Common.{◌≡◌, ℕ, false, Some, refl, sym, ◌∙◌, ap, subst, arith}
use Rattle.std.specs.Bool.{IsTrue}
use Rattle.grid_base.specs.declared.size.Size.{Size}
use Rattle.grid_base.specs.Numbers.{Connects, IsVertex}
use Rattle.grid_base.specs.Neighbours.{steps}
use Rattle.grid_base.proofs.Neighbours.{step_read, steps_lead}
use Rattle.grid_base.proofs.Pieces.{end_vertex}
use Rattle.shortest_paths.specs.LabelWords.{label_of}
use Rattle.shortest_paths.proofs.Backwards.{NoneReachesBelow, read_step, none_more, none_past, some_reaches}
use Rattle.steiner_tables.proofs.FoundNumbers.{found_number}
use Rattle.steiner_exact.proofs.reading.behind.Goals as goal
use Rattle.steiner_exact.proofs.reading.behind.Goals.{in-Some+else-reaches, in_default}

pub reaches-requires-clause-vertex : goal.reaches-requires-clause-vertex
reaches-requires-clause-vertex g c =
    let s = g.W.Weights.size c.args.weights.now in
    let table : c.steps.result ≡ steps s c.args.here.0 = c.steps.ensures ∙ ap (λ (x : Size). steps x c.args.here.0) (c.size.ensures ∙ c.requires.size) in
    let connects : Connects s c.in-Some.by c.args.here.0 c.in-Some.before.0 = steps_lead s c.args.here.0 c.loop-step.step-index (Some (c.in-Some.before, c.in-Some.by)) c.requires.vertex
    (step_read s c.args.here.0 c.loop-step.step-index c.steps.result _ table c.loop-step-test.true c.in-Some.is) in
    subst (λ (x : Size). IsVertex x c.in-Some.before.0) (sym c.requires.size) (end_vertex s c.in-Some.by c.args.here.0 c.in-Some.before.0 connects)

pub returns-then-reaches-clause-some : goal.returns-then-reaches-clause-some
returns-then-reaches-clause-some g c =
    let s = g.W.Weights.size c.args.weights.now in
    let table : c.steps.result ≡ steps s c.args.here.0 = c.steps.ensures ∙ ap (λ (x : Size). steps x c.args.here.0) (c.size.ensures ∙ c.requires.size) in
    let connects : Connects s c.in-Some.by c.args.here.0 c.in-Some.before.0 = steps_lead s c.args.here.0 c.loop-step.step-index (Some (c.in-Some.before, c.in-Some.by)) c.requires.vertex
    (step_read s c.args.here.0 c.loop-step.step-index c.steps.result _ table c.loop-step-test.true c.in-Some.is) in
    let reaches = c.if-reaches.ensures.0 refl in
    let number = found_number (label_of c.args.labels.now c.args.mask c.args.here.0) c.unwrap-number.result (sym c.unwrap-number.ensures ∙ c.label.ensures) in
    record {
      weight = reaches.weight;
      step = record { connects = connects; weighs = reaches.weighs };
      less = omega (arith, reaches.within, number);
    }

pub loop-step-preserved : goal.loop-step-preserved
loop-step-preserved g c =
    let s = g.W.Weights.size c.args.weights.now in
    let table : c.steps.result ≡ steps s c.args.here.0 = c.steps.ensures ∙ ap (λ (x : Size). steps x c.args.here.0) (c.size.ensures ∙ c.requires.size) in
    let pieces = g.W.Weights.pieces c.args.weights.now in
    let num = label_of c.args.labels.now c.args.mask in
    elim c.match-step.branch [
      | in-Some+else-reaches w ↦
          none_more s pieces num c.args.here.0 c.unwrap-number.result c.loop-step.step-index w.in-Some.before w.in-Some.by c.loop-step.invariant
          (read_step s c.args.here.0 c.loop-step.step-index c.steps.result _ table w.in-Some.is)
          (λ reaches. let yes : IsTrue false = w.if-reaches.ensures.1 reaches in cc)
      | in_default w ↦
          none_past s pieces num c.args.here.0 c.unwrap-number.result c.loop-step.step-index c.loop-step.invariant
          (read_step s c.args.here.0 c.loop-step.step-index c.steps.result _ table w.in_default.is)
    ]

pub returns-clause-none : goal.returns-clause-none
returns-clause-none g c = λ _ behind.
    let s = g.W.Weights.size c.args.weights.now in
    let pieces = g.W.Weights.pieces c.args.weights.now in
    let num = label_of c.args.labels.now c.args.mask in
    let all : c.loop-step.step-index ≡ 6 = omega arith in
    let number = found_number (label_of c.args.labels.now c.args.mask c.args.here.0) c.unwrap-number.result (sym c.unwrap-number.ensures ∙ c.label.ensures) in
    some_reaches s pieces num c.args.here.0 behind
    (subst (λ (n : ℕ). NoneReachesBelow s pieces num c.args.here.0 n 6) number (subst (NoneReachesBelow s pieces num c.args.here.0 c.unwrap-number.result) all c.loop-step.invariant))
