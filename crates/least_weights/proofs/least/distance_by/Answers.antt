use Rattle.std.proofs.Common.{Option, IsSome, sym, ◌∙◌, subst, arith}
use Rattle.grid_base.specs.declared.size.Size.{Size}
use Rattle.grid_base.specs.Numbers.{IsVertex}
use Rattle.grid_graph.specs.Weighed.{IsAllowed}
use Rattle.shortest_paths.specs.LabelWords.{distance_of}
use Rattle.steiner_exact.proofs.LeastSets.{first_of, second_of, first_vertex, second_vertex, joins_first_two, joined_distance, searched}
use Rattle.least_weights.proofs.FewVertices.{two_least}
use Rattle.least_weights.proofs.least.distance_by.Goals as goal

pub distance_between-requires-clause-source : goal.distance_between-requires-clause-source
distance_between-requires-clause-source g c =
    first_vertex (g.W.Weights.size c.args.weights.now) (IsAllowed (g.W.Weights.pieces c.args.weights.now)) c.args.terminals.now c.requires.two c.requires.joined

pub distance_between-requires-clause-goal : goal.distance_between-requires-clause-goal
distance_between-requires-clause-goal g c =
    second_vertex (g.W.Weights.size c.args.weights.now) (IsAllowed (g.W.Weights.pieces c.args.weights.now)) c.args.terminals.now c.requires.two c.requires.joined

pub distance-requires : goal.distance-requires
distance-requires g c =
    subst (λ (x : Size). IsVertex x (second_of c.args.terminals.now)) (sym (c.distance_between.ensures.size ∙ c.requires.labels))
    (second_vertex (g.W.Weights.size c.args.weights.now) (IsAllowed (g.W.Weights.pieces c.args.weights.now)) c.args.terminals.now c.requires.two c.requires.joined)

pub unwrap-requires : goal.unwrap-requires
unwrap-requires g c =
    let s = g.W.Weights.size c.args.weights.now in
    let pieces = g.W.Weights.pieces c.args.weights.now in
    let l = c.distance_between.new.self in
    let terminals = c.args.terminals.now in
    subst (λ (o : Option _). IsSome o) (sym c.distance.ensures)
    (joined_distance s pieces (first_of terminals) (second_of terminals) (distance_of l (second_of terminals)) (g.met.W.Weights.once c.args.weights.now)
    (joins_first_two s (IsAllowed pieces) terminals (omega (arith, c.requires.two)) c.requires.joined)
    (searched s pieces l terminals c.distance_between.ensures.source c.distance_between.ensures.goal))

pub returns-clause-least : goal.returns-clause-least
returns-clause-least g c =
    two_least (g.W.Weights.size c.args.weights.now) (g.W.Weights.pieces c.args.weights.now) c.distance_between.new.self c.args.terminals.now c.unwrap.result c.requires.two
    c.distance_between.ensures.source c.distance_between.ensures.goal (sym c.distance.ensures ∙ c.unwrap.ensures)
