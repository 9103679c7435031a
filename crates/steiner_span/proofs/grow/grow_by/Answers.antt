use Rattle.std.proofs.Common.{◌≡◌, ℕ, take, ◌∙◌, arith}
use Rattle.std.proofs.lemmas.Grind.{common_steps}
use Rattle.std.proofs.lemmas.List.Elements.{All-more, All-weaker, All-contains}
use Rattle.grid_base.specs.declared.vertex.Vertex.{Vertex}
use Rattle.grid_base.specs.Walks.{InVertices}
use Rattle.shortest_paths.specs.LabelWords.{labels_number}
use Rattle.steiner_span.proofs.grow.grow_by.Goals as goal

pub loop-goal-preserved : goal.loop-goal-preserved
loop-goal-preserved g c =
    let before = c.loop-goal.invariant in
    let after = c.in_ok-grow_to.ensures in
    let new = c.grow_to.new.labels in
    let P : Vertex → Type 0 = λ v. labels_number new v.0 ≡ 0 in
    record {
      size = after.fell.go_on.size ∙ before.size;
      masks = after.fell.go_on.masks ∙ before.masks;
      ahead_size = after.ahead_size ∙ before.ahead_size;
      ahead = after.ahead ∙ before.ahead;
      left = after.left;
      terminals = after.fell.go_on.first c.args.terminals.now c.begin-count.result before.terminals;
      source = (before.source.0, before.source.1, omega (arith, before.source.2, after.fell.falls before.source.0));
      growing = after.growing;
      grown = after.grown;
      done = All-more P c.args.terminals.now c.loop-goal.goal-index (record { 0 = 0 }) c.loop-goal-test.true
          (All-weaker (λ (v : Vertex). labels_number c.loop-goal.labels v.0 ≡ 0) P (λ v zero. omega (arith, zero, after.fell.falls v.0)) (take c.loop-goal.goal-index c.args.terminals.now) before.done)
          after.reached;
    }

pub returns-clause-allowed : goal.returns-clause-allowed
returns-clause-allowed g c = λ p listed.
    let light = c.loop-goal.invariant.grown.light in
    let at = light.listed p listed in
    (at.0, light.is_set.allowed (p, at.0) at.1)

pub returns-clause-joins : goal.returns-clause-joins
returns-clause-joins g c =
    let terminals = c.args.terminals.now in
    let all : take c.loop-goal.goal-index terminals ≡ terminals = grind (arith, common_steps) in
    let done = rw all at c.loop-goal.invariant.done in
    let none : (v : ℕ) → InVertices terminals v → labels_number c.loop-goal.labels v ≡ 0 = λ v is. All-contains (λ (w : Vertex). labels_number c.loop-goal.labels w.0 ≡ 0) terminals (record { 0 = v }) done is in
    λ a b is_a is_b. c.loop-goal.invariant.grown.joined a b (none a is_a) (none b is_b)
