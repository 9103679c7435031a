use Rattle.std.proofs.Common.{◌≡◌, Option, None, Some, IsSome, refl, subst}
use Rattle.std.specs.Option.{IfSome}
use Rattle.grid_base.specs.declared.spot.Spot.{Spot}
use Rattle.grid_base.specs.Walks.{InVertices}
use Rattle.shortest_paths.specs.LedSearches.{IsTakenOut}
use Rattle.steiner_span.proofs.Growing.{some_waits, take_growing, take_falls}
use Rattle.steiner_span.proofs.grow.take.Goals as goal

-- what isn't none is some
not_none : (o : Option Spot) → (o ≡ None → ⊥) → IsSome o
not_none None other = absurd (other refl)
not_none (Some at) other = refl

pub unwrap-requires : goal.unwrap-requires
unwrap-requires g c = not_none c.next.result (λ none.
    some_waits (g.W.Weights.size c.args.weights.now) (g.W.Weights.pieces c.args.weights.now) (InVertices c.args.terminals.now) (g.B.Bound.rest c.args.bound.now) c.args.labels.now c.requires.growing
    (g.met.W.Weights.once c.args.weights.now) (g.met.W.Weights.small c.args.weights.now) c.requires.joined c.requires.source c.requires.goal (c.next.ensures.none none))

pub returns-clause-taken : goal.returns-clause-taken
returns-clause-taken g c =
    let out : IsTakenOut c.args.labels.now c.next.new.self c.unwrap.result.vertex.0 =
    subst (λ (o : Option Spot). IfSome o (λ at. IsTakenOut c.args.labels.now c.next.new.self at.vertex.0)) c.unwrap.ensures c.next.ensures.next in
    take_growing (g.W.Weights.size c.args.weights.now) (g.W.Weights.pieces c.args.weights.now) (InVertices c.args.terminals.now) (g.B.Bound.rest c.args.bound.now) c.args.labels.now c.next.new.self c.unwrap.result.vertex.0
    c.requires.growing out

pub returns-clause-fell : goal.returns-clause-fell
returns-clause-fell g c =
    let out : IsTakenOut c.args.labels.now c.next.new.self c.unwrap.result.vertex.0 =
    subst (λ (o : Option Spot). IfSome o (λ at. IsTakenOut c.args.labels.now c.next.new.self at.vertex.0)) c.unwrap.ensures c.next.ensures.next in
    take_falls c.args.labels.now c.next.new.self c.unwrap.result.vertex.0 out
