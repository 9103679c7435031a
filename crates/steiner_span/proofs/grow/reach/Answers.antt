use Rattle.std.proofs.Common.{◌≡◌, ℕ, List, false, true, sym, ◌∙◌, ap, subst, arith}
use Rattle.grid_base.specs.declared.piece.Piece.{Piece}
use Rattle.grid_base.specs.declared.size.Size.{Size}
use Rattle.grid_base.specs.Walks.{InVertices}
use Rattle.steiner_span.specs.declared.step_back.StepBack.{StepBack}
use Rattle.shortest_paths.specs.LabelWords.{labels_number}
use Rattle.label_search.specs.Sets.{RisesSlowly}
use Rattle.steiner_span.proofs.Reaching.{IsOnWay, way_begins, way_goes_on, way_ends, seeding_begins, seeding_on, seeded_growing, no_elements}
use Rattle.steiner_span.proofs.Growing.{taken_more}
use Rattle.steiner_span.proofs.grow.reach.Goals as goal

pub loop-from-init : goal.loop-from-init
loop-from-init g c =
    let s = g.W.Weights.size c.args.weights.now in
    let pieces = g.W.Weights.pieces c.args.weights.now in
    let way = c.in_ok-way.ensures in
    record {
      seeding = seeding_begins s pieces (InVertices c.args.terminals.now) (g.A.Bound.rest c.reach.new.self) c.args.labels.now c.args.at.vertex.0
          (taken_more s pieces (InVertices c.args.terminals.now) (g.A.Bound.rest c.args.ahead.now) (g.A.Bound.rest c.reach.new.self) c.args.labels.now c.args.at.vertex.0 c.reach.ensures.more c.requires.taken);
      on = way_begins s pieces c.args.terminals.now (labels_number c.args.labels.now) c.args.at.vertex.0 way.0 c.in_ok-way.way.items c.args.grown.now.items c.requires.grown way.1 way.2;
    }

pub loop-from-preserved : goal.loop-from-preserved
loop-from-preserved g c =
    let s = g.W.Weights.size c.args.weights.now in
    let pieces = g.W.Weights.pieces c.args.weights.now in
    let num = labels_number c.args.labels.now in
    let before = c.loop-from.invariant in
    let x = c.in-Some.field-0 in
    let on = subst (λ (ws : List StepBack). IsOnWay s pieces c.args.terminals.now num (labels_number c.loop-from.labels) c.args.at.vertex.0 ws c.loop-from.grown.items) c.in-Some.ensures.items before.on in
    record {
      seeding = seeding_on s pieces (g.A.Bound.rest c.reach.new.self) c.args.labels.now c.loop-from.labels c.offer.new.labels x.from.vertex.0 before.seeding c.offer.ensures.keys c.offer.ensures.taken;
      on = rw c.in_ok-push.ensures.items (way_goes_on s pieces c.args.terminals.now num c.loop-from.labels c.offer.new.labels c.args.at.vertex.0 c.pop.new.self.items x c.loop-from.grown.items on c.offer.ensures.taken c.offer.ensures.lower);
    }

pub returns-clause-growing : goal.returns-clause-growing
returns-clause-growing g c =
    let s = g.W.Weights.size c.args.weights.now in
    let pieces = g.W.Weights.pieces c.args.weights.now in
    let num = labels_number c.args.labels.now in
    let none = no_elements c.loop-from.way.items (λ some. let clash : false ≡ true = c.in_default.ensures.variant.1 (omega (arith, some, c.loop-from.way.ok)) in cc) in
    let on = subst (λ (ws : List StepBack). IsOnWay s pieces c.args.terminals.now num (labels_number c.loop-from.labels) c.args.at.vertex.0 ws c.loop-from.grown.items) none c.loop-from.invariant.on in
    seeded_growing s pieces (InVertices c.args.terminals.now) (g.A.Bound.rest c.reach.new.self) c.args.labels.now c.loop-from.labels c.args.at.vertex.0
    (taken_more s pieces (InVertices c.args.terminals.now) (g.A.Bound.rest c.args.ahead.now) (g.A.Bound.rest c.reach.new.self) c.args.labels.now c.args.at.vertex.0 c.reach.ensures.more c.requires.taken) c.requires.unreached c.loop-from.invariant.seeding
    (ap (labels_number c.loop-from.labels) (sym on.leads) ∙ on.reached)

pub returns-clause-grown : goal.returns-clause-grown
returns-clause-grown g c =
    let s = g.W.Weights.size c.args.weights.now in
    let pieces = g.W.Weights.pieces c.args.weights.now in
    let num = labels_number c.args.labels.now in
    let rest = g.A.Bound.rest c.args.ahead.now in
    let slow : RisesSlowly s pieces rest = subst (λ (r : Size). RisesSlowly r pieces rest) c.requires.ahead_size (subst (λ (ps : List (Piece × ℕ)). RisesSlowly (g.A.Bound.size c.args.ahead.now) ps rest) c.requires.ahead (g.met.A.Bound.slow c.args.ahead.now)) in
    let none = no_elements c.loop-from.way.items (λ some. let clash : false ≡ true = c.in_default.ensures.variant.1 (omega (arith, some, c.loop-from.way.ok)) in cc) in
    let on = subst (λ (ws : List StepBack). IsOnWay s pieces c.args.terminals.now num (labels_number c.loop-from.labels) c.args.at.vertex.0 ws c.loop-from.grown.items) none c.loop-from.invariant.on in
    way_ends s pieces c.args.terminals.now rest c.args.labels.now (labels_number c.loop-from.labels) c.args.at.vertex.0 c.loop-from.grown.items c.requires.taken slow (λ v terminal above. g.met.A.Ahead.near c.args.ahead.now v (c.requires.left v terminal above)) c.requires.terminal c.requires.unreached c.loop-from.invariant.seeding.fell.falls on

pub returns-clause-reached : goal.returns-clause-reached
returns-clause-reached g c =
    let s = g.W.Weights.size c.args.weights.now in
    let pieces = g.W.Weights.pieces c.args.weights.now in
    let num = labels_number c.args.labels.now in
    let none = no_elements c.loop-from.way.items (λ some. let clash : false ≡ true = c.in_default.ensures.variant.1 (omega (arith, some, c.loop-from.way.ok)) in cc) in
    let on = subst (λ (ws : List StepBack). IsOnWay s pieces c.args.terminals.now num (labels_number c.loop-from.labels) c.args.at.vertex.0 ws c.loop-from.grown.items) none c.loop-from.invariant.on in
    ap (labels_number c.loop-from.labels) (sym on.leads) ∙ on.reached

pub returns-clause-left : goal.returns-clause-left
returns-clause-left g c =
    let s = g.W.Weights.size c.args.weights.now in
    let pieces = g.W.Weights.pieces c.args.weights.now in
    let num = labels_number c.args.labels.now in
    let none = no_elements c.loop-from.way.items (λ some. let clash : false ≡ true = c.in_default.ensures.variant.1 (omega (arith, some, c.loop-from.way.ok)) in cc) in
    let on = subst (λ (ws : List StepBack). IsOnWay s pieces c.args.terminals.now num (labels_number c.loop-from.labels) c.args.at.vertex.0 ws c.loop-from.grown.items) none c.loop-from.invariant.on in
    let reached : labels_number c.loop-from.labels c.args.at.vertex.0 ≡ 0 = ap (labels_number c.loop-from.labels) (sym on.leads) ∙ on.reached in
    λ v terminal above. c.reach.ensures.left v (λ here. omega (arith, above, reached, ap (labels_number c.loop-from.labels) here))
    (c.requires.left v terminal (omega (arith, above, c.loop-from.invariant.seeding.fell.falls v)))
