use Rattle.std.proofs.Common.{ℕ, Option, Some, ◌≡◌, sym, ◌∙◌, subst, arith}
use Rattle.std.specs.Option.{IfSome, IsSome}
use Rattle.grid_base.specs.declared.size.Size.{Size}
use Rattle.grid_base.specs.Numbers.{IsVertex}
use Rattle.grid_graph.specs.Weighed.{IsAllowed}
use Rattle.shortest_paths.specs.LabelWords.{distance_of}
use Rattle.label_search.specs.Paths.{IsPath}
use Rattle.label_search.specs.Sets.{IsDistance}
use Rattle.steiner_exact.proofs.LeastSets.{first_of, second_of, first_vertex, second_vertex, joins_first_two, joined_distance, searched, both_least}
use Rattle.steiner_exact.proofs.TwoTerminals.{joined_vertices}
use Rattle.steiner_exact.proofs.least_path.path_by.Goals as goal

pub distance_between-requires-clause-source : goal.distance_between-requires-clause-source
distance_between-requires-clause-source g c =
    first_vertex (g.W.Weights.size c.args.weights.now) (IsAllowed (g.W.Weights.pieces c.args.weights.now)) c.args.terminals.now c.requires.two c.requires.joined

pub distance_between-requires-clause-goal : goal.distance_between-requires-clause-goal
distance_between-requires-clause-goal g c =
    second_vertex (g.W.Weights.size c.args.weights.now) (IsAllowed (g.W.Weights.pieces c.args.weights.now)) c.args.terminals.now c.requires.two c.requires.joined

pub path_to-requires-clause-vertex : goal.path_to-requires-clause-vertex
path_to-requires-clause-vertex g c =
    second_vertex (g.W.Weights.size c.args.weights.now) (IsAllowed (g.W.Weights.pieces c.args.weights.now)) c.args.terminals.now c.requires.two c.requires.joined

pub unwrap-weight-requires : goal.unwrap-weight-requires
unwrap-weight-requires g c =
    let s = g.W.Weights.size c.args.weights.now in
    let pieces = g.W.Weights.pieces c.args.weights.now in
    let l = c.distance_between.new.self in
    let terminals = c.args.terminals.now in
    subst (λ (o : Option ℕ). IsSome o) (sym c.distance.ensures)
    (joined_distance s pieces (first_of terminals) (second_of terminals) (distance_of l (second_of terminals)) (g.met.W.Weights.once c.args.weights.now)
    (joins_first_two s (IsAllowed pieces) terminals (omega (arith, c.requires.two)) c.requires.joined)
    (searched s pieces l terminals c.distance_between.ensures.source c.distance_between.ensures.goal))

pub distance-requires : goal.distance-requires
distance-requires g c =
    subst (λ (x : Size). IsVertex x (second_of c.args.terminals.now)) (sym (c.distance_between.ensures.size ∙ c.requires.size))
    (second_vertex (g.W.Weights.size c.args.weights.now) (IsAllowed (g.W.Weights.pieces c.args.weights.now)) c.args.terminals.now c.requires.two c.requires.joined)

pub path_to-requires-clause-joined : goal.path_to-requires-clause-joined
path_to-requires-clause-joined g c =
    let s = g.W.Weights.size c.args.weights.now in
    let pieces = g.W.Weights.pieces c.args.weights.now in
    let l = c.distance_between.new.self in
    let terminals = c.args.terminals.now in
    joined_distance s pieces (first_of terminals) (second_of terminals) (distance_of l (second_of terminals)) (g.met.W.Weights.once c.args.weights.now)
    (joins_first_two s (IsAllowed pieces) terminals (omega (arith, c.requires.two)) c.requires.joined)
    (searched s pieces l terminals c.distance_between.ensures.source c.distance_between.ensures.goal)

pub returns-clause-tree : goal.returns-clause-tree
returns-clause-tree g c =
    let s = g.W.Weights.size c.args.weights.now in
    let pieces = g.W.Weights.pieces c.args.weights.now in
    let l = c.distance_between.new.self in
    let terminals = c.args.terminals.now in
    let path = c.in_ok-path.path.items in
    let once = g.met.W.Weights.once c.args.weights.now in
    let is : distance_of l (second_of terminals) ≡ Some c.unwrap-weight.result = sym c.distance.ensures ∙ c.unwrap-weight.ensures in
    let distance = subst (IsDistance s pieces (first_of terminals) (second_of terminals)) is (searched s pieces l terminals c.distance_between.ensures.source c.distance_between.ensures.goal) in
    let walk = subst (λ (o : Option ℕ). IfSome o (λ d. IsPath s pieces (first_of terminals) (second_of terminals) d path)) is
    (subst (λ a. IfSome (distance_of l (second_of terminals)) (λ d. IsPath s pieces a (second_of terminals) d path)) c.distance_between.ensures.source c.in_ok-path.ensures) in
    both_least s pieces terminals c.unwrap-weight.result path c.of.result once c.requires.two (joined_vertices s (IsAllowed pieces) terminals c.requires.joined) distance walk c.of.ensures.rising c.of.ensures.same
