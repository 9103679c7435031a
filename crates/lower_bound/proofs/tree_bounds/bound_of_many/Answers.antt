use Rattle.std.proofs.Common.{◌∙◌, arith}
use Rattle.grid_graph.specs.Weighed.{IsAllowed}
use Rattle.steiner_exact.proofs.TwoTerminals.{joined_vertices}
use Rattle.lower_bound.proofs.ManyBounds.{chosen_joined, bound_of_many, spread_of_five}
use Rattle.lower_bound.proofs.tree_bounds.bound_of_many.Goals as goal

pub led_least-requires-clause-joined : goal.led_least-requires-clause-joined
led_least-requires-clause-joined g c =
    let s = g.W.Weights.size c.args.weights.now in
    let spread = spread_of_five c.size.result s c.args.terminals.now c.choose-chosen.result (c.size.ensures ∙ c.requires.labels.grid) c.requires.many c.choose-chosen.ensures.long c.choose-chosen.ensures.spread in
    chosen_joined s (IsAllowed (g.W.Weights.pieces c.args.weights.now)) c.args.terminals.now c.choose-chosen.result spread c.requires.joined

pub led_least-requires-clause-vertices : goal.led_least-requires-clause-vertices
led_least-requires-clause-vertices g c =
    let s = g.W.Weights.size c.args.weights.now in
    let its = IsAllowed (g.W.Weights.pieces c.args.weights.now) in
    let spread = spread_of_five c.size.result s c.args.terminals.now c.choose-chosen.result (c.size.ensures ∙ c.requires.labels.grid) c.requires.many c.choose-chosen.ensures.long c.choose-chosen.ensures.spread in
    joined_vertices s its c.choose-chosen.result (chosen_joined s its c.args.terminals.now c.choose-chosen.result spread c.requires.joined)

pub returns-clause-bound : goal.returns-clause-bound
returns-clause-bound g c =
    let w = c.args.weights.now in
    let s = g.W.Weights.size w in
    let pieces = g.W.Weights.pieces w in
    let spread = spread_of_five c.size.result s c.args.terminals.now c.choose-chosen.result (c.size.ensures ∙ c.requires.labels.grid) c.requires.many c.choose-chosen.ensures.long c.choose-chosen.ensures.spread in
    let some = c.requires.vertices 0 (record { 0 = 0 }) (omega (arith, c.requires.many)) in
    bound_of_many s pieces c.args.terminals.now c.choose-chosen.result c.in_ok-of_chosen.of_chosen c.in_ok-halves.halves c.max.result
    (g.met.W.Weights.once w) (g.met.W.Weights.inside w) (g.met.W.Weights.small w) (omega (arith, c.requires.many)) c.requires.joined (omega (arith, some))
    spread c.in_ok-of_chosen.ensures.least c.in_ok-halves.ensures.sum c.max.ensures
